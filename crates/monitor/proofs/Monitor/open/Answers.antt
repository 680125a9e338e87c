-- The read's code is the opening's; an accepted read leaves the configuration to decide, and that the permissions and the workflow.
use Rattle.std.specs.Prelude.{Some, None}
use Rattle.std.proofs.Common.{◌≡◌, ℕ, cond, length, leb, sym, ap, ap₂, ◌∙◌, le-leb, arith}
use Rattle.std.proofs.lemmas.Result.{err_from_is_err_and}
use Rattle.policy.specs.Codes.{Plain, WORKFLOW}
use Rattle.policy.specs.Faults.{code_number}
use Rattle.policy.specs.Answers.{code_of}
use Rattle.policy.specs.Refusals.{Clear}
use Rattle.policy.specs.Reading.{Accepted, read_policy}
use Rattle.workflow.specs.Reading.{SecureRead, not_given, as_read, secure_ok, secure_of}
use Rattle.workflow.proofs.Formed.{read_is-formed}
use Rattle.configuration.specs.declared.Configuration.{Configuration}
use Rattle.configuration.specs.Configurations.{Configured, with_permissions, given_configuration}
use Rattle.instance.specs.declared.Instance.{Instance}
use Rattle.instance.specs.Instances.{no_instance, instance_of}
use Rattle.instance.proofs.Formed.{policy_ok, words-few}
use Rattle.monitor.specs.Monitors.{Opening, given, open_code, fresh}
use Rattle.monitor.proofs.Opening.{policy-refusals, read_accepted, code_refused, code_plain, configuration_refused, code-secure, configuration_given, opening_refused, opening-accepted}
use Rattle.monitor.proofs.Monitor.open.Goals as goal

-- an accepted read, and what the configuration then answers
module _ (o : Opening) (n m : ℕ) (read : Accepted n m ≡ read_policy o.users o.roles o.words) where
  clear_policy : Clear (policy-refusals o)
  clear_policy = (read_accepted o.users o.roles o.words n m (sym read)).clear_read

  -- an accepted configuration, and what permissions and workflow are read as
  module _ (d : Configuration) (e : record { code = 0; configuration = d } ≡ given_configuration o.users o.roles o.rows)
      (s : SecureRead) (is : s ≡ secure_of o.roles o.permissions o.workflow) where
    none : (given_configuration o.users o.roles o.rows).code ≡ 0
    none = ap (λ (x : Configured). x.code) (sym e)

    secured : s.accepted ≡ secure_ok o.roles o.permissions o.workflow
    secured = ap (λ (x : SecureRead). x.accepted) is ∙ (read_is-formed o.roles o.permissions o.workflow).accepted

    decided : open_code o ≡ cond s.accepted 0 WORKFLOW
    decided = code-secure o clear_policy none ∙ rw secured

    over : (c : Configuration) → c ≡ with_permissions d s.permissions → c ≡ (fresh o).configuration
    unfolding fresh
    over c k = k ∙ ap₂ (λ (x : Configuration) (y : SecureRead). with_permissions x y.permissions)
        (ap (λ (x : Configured). x.configuration) e ∙ configuration_given o none) is

    under : (i : Instance) → i ≡ cond (leb (length o.words) 31) (instance_of o.words s.workflow) no_instance → i ≡ (fresh o).instance
    unfolding fresh
    under i k =
        let few = words-few o.words (policy_ok o.users o.roles o.words clear_policy) in
        k ∙ rw (le-leb (length o.words) 31 few) (ap (λ (y : SecureRead). instance_of o.words y.workflow) is)

pub returns-in_err-read : goal.returns-in_err-read
returns-in_err-read c =
    let a = c.args in
    let o = given a.users a.roles a.words.now a.rows.now a.permissions.now a.workflow.now in
    let p = err_from_is_err_and c.from_residual.result c.from_residual.ensures.1 in
    let d = code_refused o (code_of c.in_err-read.field-0.0) (sym c.in_err-read.ensures) in
    rw (p.1, p.2) (opening_refused o (code_of c.in_err-read.field-0.0) d.0 d.1)

pub returns-in_err-configuration : goal.returns-in_err-configuration
returns-in_err-configuration c =
    let a = c.args in
    let o = given a.users a.roles a.words.now a.rows.now a.permissions.now a.workflow.now in
    let p = err_from_is_err_and c.from_residual-in_err-configuration.result c.from_residual-in_err-configuration.ensures.1 in
    let r = c.in_err-configuration.field-0.0 in
    let k : code_number (code_of r) ≡ (given_configuration o.users o.roles o.rows).code = ap (λ (x : Configured). x.code) c.in_err-configuration.ensures in
    let d = configuration_refused o (clear_policy o _ _ c.in_ok-read.ensures) r k in
    rw (p.1, p.2) (opening_refused o (code_of r) d.0 d.1)

pub returns-in_default : goal.returns-in_default
unfolding not_given
returns-in_default c =
    let a = c.args in
    let o = given a.users a.roles a.words.now a.rows.now a.permissions.now a.workflow.now in
    let n : open_code o ≡ WORKFLOW =
    decided o _ _ c.in_ok-read.ensures c.in_ok-configuration.configuration c.in_ok-configuration.ensures (as_read None) c.in_default.ensures in
    opening_refused o (Plain WORKFLOW) (ap Plain (sym n) ∙ sym (code_plain o (clear_policy o _ _ c.in_ok-read.ensures))) (λ z. absurd (omega (arith, sym n ∙ z)))

pub returns : goal.returns
returns c =
    let a = c.args in
    let o = given a.users a.roles a.words.now a.rows.now a.permissions.now a.workflow.now in
    let s = c.in-Some.secure in
    let is = c.in-Some.ensures in
    let read = c.in_ok-read.ensures in
    let e = c.in_ok-configuration.ensures in
    rw (
      over o _ _ read c.in_ok-configuration.configuration e (as_read (Some s)) is c.with_permissions.result c.with_permissions.ensures,
      under o _ _ read c.in_ok-configuration.configuration e (as_read (Some s)) is c.under.result c.under.ensures,
    )
    (opening-accepted o (decided o _ _ read c.in_ok-configuration.configuration e (as_read (Some s)) is))
