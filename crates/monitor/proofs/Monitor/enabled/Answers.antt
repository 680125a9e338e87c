-- 12 and 15, then the mark, then the trials.
use Rattle.std.proofs.Common.{length, sym, ◌∙◌, lt-ltb, le-ltb, arith}
use Rattle.std.proofs.lemmas.Result.{err_from_is_err_and}
use Rattle.configuration.specs.Configurations.{configuration_ok}
use Rattle.instance.specs.Instances.{instance_ok}
use Rattle.soda.proofs.Bools.{and_split}
use Rattle.monitor.proofs.Checks.{refusal-number}
use Rattle.monitor.proofs.Order.{admission_short, admission_long, checked_formed}
use Rattle.monitor.proofs.Enabling.{enabled_refused, enabled_closed, enabled_tried}
use Rattle.monitor.proofs.Monitor.enabled.Goals as goal

pub returns-then-workspace-lt8192 : goal.returns-then-workspace-lt8192
returns-then-workspace-lt8192 c =
    let a = c.args in
    let n = admission_short a.self _ (lt-ltb (length a.workspace.now) 8192 c.if-workspace-lt8192.true) in
    rw n at (enabled_refused a.self a.workspace.now (λ z. absurd (omega (arith, sym n ∙ z))) a.action)

pub returns-in_err-check : goal.returns-in_err-check
returns-in_err-check c =
    let a = c.args in
    let p = err_from_is_err_and c.from_residual.result c.from_residual.ensures.1 in
    let n = c.in_err-check.ensures.number ∙ sym (admission_long a.self _ (le-ltb (length a.workspace.now) 8192 c.if-workspace-lt8192.false)) in
    rw (p.1, p.2) (rw n (enabled_refused a.self a.workspace.now (λ z. refusal-number c.in_err-check.field-0.0 (n ∙ z)) a.action))

pub returns-then-is_closed : goal.returns-then-is_closed
returns-then-is_closed c =
    let a = c.args in
    let n = admission_long a.self _ (le-ltb (length a.workspace.now) 8192 c.if-workspace-lt8192.false) ∙ sym c.in_ok-check.ensures.number in
    enabled_closed _ _ n _ (sym c.is_closed.ensures ∙ c.if-is_closed.true)

pub try_all-requires : goal.try_all-requires
try_all-requires c =
    let a = c.args in
    let (p, q) = and_split (configuration_ok a.self.configuration) (instance_ok a.self.configuration a.self.instance) (checked_formed a.self c.in_ok-check.ensures.number) in
    record { long = c.if-workspace-lt8192.false; configuration_is_ok = p; instance_is_ok = q }

pub returns : goal.returns
returns c =
    let a = c.args in
    let n = admission_long a.self _ (le-ltb (length a.workspace.now) 8192 c.if-workspace-lt8192.false) ∙ sym c.in_ok-check.ensures.number in
    enabled_tried _ _ n _ (sym c.is_closed.ensures ∙ c.if-is_closed.false) c.ranges.action.fits _ _ c.try_all.ensures
