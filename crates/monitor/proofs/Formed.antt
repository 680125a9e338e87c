-- What an accepted opening and a well-formed monitor say of their parts: none of the refusals applies.
use mathlib.Core.Path.{◌≡◌, refl, sym, ap, subst}
use mathlib.Core.Bool.{So}
use lib.ListN.{length}
use borrow.Author.Tests.{not-false}
use Rattle.soda.proofs.Bools.{and_split, and-join}
use Rattle.policy.specs.Refusals.{Clear}
use Rattle.policy.specs.Words.{decode, term_of}
use Rattle.policy.specs.Reading.{units_of, answer, read_policy}
use Rattle.policy.specs.Accepted.{IsPolicy}
use Rattle.policy.proofs.Refusals.{clear, clear_code, clear_front, clear_behind}
use Rattle.policy.proofs.Accepted.{read_is-encode, decode-is-term}
use Rattle.monitor.specs.declared.Monitor.{Monitor}
use Rattle.workflow.specs.Reading.{secure_ok}
use Rattle.configuration.specs.Configurations.{rows_ok, configuration_ok}
use Rattle.instance.specs.Instances.{instance_ok}
use Rattle.monitor.specs.Monitors.{Opening, open_refusals, open_code, well_formed}
use Rattle.monitor.specs.Laws.{OpenedIsPolicy, OpenedRowsOk, OpenedSecureOk, TwelveAtMost}
use Rattle.configuration.proofs.Formed.{ConfigurationFormed, configuration_formed, is_configuration_formed}
use Rattle.instance.proofs.Formed.{PolicyOk, policy_ok, InstanceFormed, instance-formed, is_instance_formed}
use Rattle.monitor.proofs.Opening.{policy-refusals, rows_refusal}

-- ── an opening that is accepted ──
module _ (o : Opening) (e : open_code o ≡ 0) where
  all_clear : Clear (open_refusals o)
  unfolding open_refusals
  all_clear = clear (open_refusals o) refl e

  pub opens_clear : Clear (policy-refusals o)
  unfolding open_refusals
  opens_clear = clear_front (policy-refusals o) (rows_refusal o) all_clear

  pub opens_read : PolicyOk o.users o.roles o.words
  opens_read = policy_ok o.users o.roles o.words opens_clear

pub opened-rows_ok : OpenedRowsOk
unfolding open_refusals
opened-rows_ok o e = not-false (rows_ok o.users o.roles o.rows) (clear_behind (policy-refusals o) (rows_refusal o) (all_clear o e)).0

pub opened-secure_ok : OpenedSecureOk
unfolding open_refusals
opened-secure_ok o e = not-false (secure_ok o.roles o.permissions o.workflow) (clear_behind (policy-refusals o) (rows_refusal o) (all_clear o e)).1.0

pub opened-is-policy : OpenedIsPolicy
unfolding read_policy
opened-is-policy o e =
    let accepted = ap (answer o.users o.roles o.words) (clear_code (policy-refusals o) (opens_clear o e)) in
    let (φ, p, n, m) = (read_is-encode o.users o.roles o.words (length o.words) (units_of (decode o.words))).0 accepted in
    subst (IsPolicy o.users o.roles o.words) (sym (ap term_of (decode-is-term o.users o.roles o.words φ p))) p

-- ── a well-formed monitor ──
pub record Formed (m : Monitor) : Type 0 where
  pub in_configuration : ConfigurationFormed m.configuration
  pub in_instance : InstanceFormed m.configuration m.instance

module _ (m : Monitor) where
  pub formed : So (well_formed m) → Formed m
  formed h =
      let (p, q) = and_split (configuration_ok m.configuration) (instance_ok m.configuration m.instance) h in
      record { in_configuration = configuration_formed m.configuration p; in_instance = instance-formed m.configuration m.instance q }

  pub is_formed_lem : Formed m → So (well_formed m)
  is_formed_lem f = and-join (configuration_ok m.configuration) (instance_ok m.configuration m.instance)
      (is_configuration_formed m.configuration f.in_configuration) (is_instance_formed m.configuration m.instance f.in_instance)

pub twelve_at_most : TwelveAtMost
twelve_at_most m h = (formed m h).in_instance.taken_most
