-- The checks in order: each return is a refusal's, or what performing the event gave.
use borrow.Author.Tests.{ne_eqb}
use mathlib.Core.Logic.{◌≢◌}
use Rattle.std.proofs.Common.{◌≡◌, List, ℕ, true, false, length, refl, sym, subst, ap, ◌∙◌, arith}
use Rattle.std.specs.Prelude.{Some}
use Rattle.std.specs.Result.{result_ok}
use Rattle.std.proofs.lemmas.Result.{err_from_is_err_and}
use Rattle.policy.specs.Codes.{CLOSED, MALFORMED}
use Rattle.policy.specs.Refusals.{code}
use Rattle.policy.specs.declared.refusal.Refusal.TheVariants.{Malformed as Missing}
use Rattle.instance.specs.declared.Instance.{Instance}
use Rattle.instance.specs.Instances.{is_closed}
use Rattle.monitor.specs.Events.{Event, Malformed, as_event, event_in, is_malformed, entry, Outcome, own_refusals}
use Rattle.monitor.specs.declared.events.Event.{Event as Read}
use Rattle.monitor.specs.declared.events.Event.TheVariants.{Action, Grant, Revoke, Close}
use Rattle.monitor.specs.Private.{Meets, actor, monitor_outcome}
use Rattle.monitor.specs.declared.Monitor.{Monitor}
use Rattle.configuration.proofs.Formed.{is_configuration_formed}
use Rattle.instance.proofs.Formed.{is_instance_formed}
use Rattle.monitor.proofs.Formed.{formed}
use Rattle.monitor.proofs.Checks.{noting, refusal-number, refused_missing}
use Rattle.monitor.proofs.Reading.{declared, entered, asks, long_enough}
use Rattle.monitor.proofs.Order.{admission_short, admission_long, checked_formed, not_admitted, not_entered, performed}
use Rattle.monitor.proofs.Monitor.event.Goals as goal

pub returns-then-is_short : goal.returns-then-is_short
returns-then-is_short c =
    let a = c.args in
    let n = admission_short a.self _ (sym c.is_short.ensures ∙ c.if-is_short.true) in
    rw n at (not_admitted a.self a.word a.workspace.now (λ z. absurd (omega (arith, sym n ∙ z))))

pub returns-in_err-met : goal.returns-in_err-met
returns-in_err-met c =
    let a = c.args in
    let p = err_from_is_err_and c.from_residual.result c.from_residual.ensures.1 in
    let n = c.in_err-met.ensures.number ∙ sym (admission_long a.self _ (sym c.is_short.ensures ∙ c.if-is_short.false)) in
    rw (p.1, p.2) (rw n (not_admitted a.self a.word a.workspace.now (λ z. refusal-number c.in_err-met.field-0.0 (n ∙ z))))

-- 10, and 7 behind it
closed : (i : Instance) (e : Event) → is_closed i ≡ true → code (entry i e) ≡ CLOSED
closed i e k = rw k

malformed : (i : Instance) (e : Event) → is_closed i ≡ false → is_malformed e ≡ true → code (entry i e) ≡ MALFORMED
malformed i e k b = rw (k, b)

-- an event that is read is in form
in_form : (e : Read) → is_malformed (as_event (Some e)) ≡ false
in_form (Action u a) = refl
in_form (Grant u r) = refl
in_form (Revoke u r) = refl
in_form Close = refl

clear : (i : Instance) (e : Event) → is_closed i ≡ false → is_malformed e ≡ false → code (entry i e) ≡ 0
clear i e k b = rw (k, b)

pub returns-then-is_closed : goal.returns-then-is_closed
returns-then-is_closed c =
    let a = c.args in
    let ok = admission_long a.self _ (sym c.is_short.ensures ∙ c.if-is_short.false) ∙ sym c.in_ok-met.ensures.number in
    let n = closed a.self.instance (event_in a.self a.word) (sym c.is_closed.ensures ∙ c.if-is_closed.true) in
    rw n at (not_entered a.self a.word a.workspace.now ok (λ z. absurd (omega (arith, sym n ∙ z))))

pub returns-in_err-event : goal.returns-in_err-event
returns-in_err-event c =
    let a = c.args in
    let p = err_from_is_err_and c.from_residual-in_err-event.result c.from_residual-in_err-event.ensures.1 in
    let ok = admission_long a.self _ (sym c.is_short.ensures ∙ c.if-is_short.false) ∙ sym c.in_ok-met.ensures.number in
    let q = refused_missing c.read_event-event.result Missing c.in_err-event.field-0.0 (sym c.ok_or.ensures.value ∙ c.in_err-event.was) in
    let is : event_in a.self a.word ≡ Malformed = sym c.read_event-event.ensures ∙ ap as_event q.0 in
    let n = malformed a.self.instance (event_in a.self a.word) (sym c.is_closed.ensures ∙ c.if-is_closed.false) (ap is_malformed is) in
    rw (p.1, p.2, q.1) (rw n at (not_entered a.self a.word a.workspace.now ok (λ z. absurd (omega (arith, sym n ∙ z)))))

pub perform-requires : goal.perform-requires
perform-requires c =
    let a = c.args in
    let m = a.self in
    let d = m.configuration in
    let v = event_in m a.word in
    let e = c.in_ok-event.event in
    let some : c.read_event-event.result ≡ Some e = c.ok_or.ensures.ok_part ∙ ap result_ok c.in_ok-event.was in
    let is : as_event (Some e) ≡ v = ap as_event (sym some) ∙ c.read_event-event.ensures in
    let acts : c.actor_of.result ≡ actor (as_event (Some e)) = c.actor_of.ensures ∙ ap (λ x. actor (as_event x)) some in
    let h = checked_formed m c.in_ok-met.ensures.number in
    let f = formed m h in (
      record {
        configuration_is_ok = is_configuration_formed d f.in_configuration;
        instance_is_ok = is_instance_formed d m.instance f.in_instance;
      },
      rw is (long_enough v a.word a.workspace.now (asks d.users d.roles a.word (length a.workspace.now)) (sym c.is_short.ensures ∙ c.if-is_short.false)),
      rw is (entered d v (declared d.users d.roles a.word) (ap is_malformed (sym is) ∙ in_form e)),
      noting m (as_event (Some e)) c.in_ok-met.met (subst (λ (u : ℕ). Meets d m.instance u c.in_ok-met.met) acts c.in_ok-met.ensures.meets),
    )

pub returns : goal.returns
returns c =
    let a = c.args in
    let e = c.in_ok-event.event in
    let ok = admission_long a.self _ (sym c.is_short.ensures ∙ c.if-is_short.false) ∙ sym c.in_ok-met.ensures.number in
    let some : c.read_event-event.result ≡ Some e = c.ok_or.ensures.ok_part ∙ ap result_ok c.in_ok-event.was in
    let is : as_event (Some e) ≡ event_in a.self a.word = ap as_event (sym some) ∙ c.read_event-event.ensures in
    c.in_ok-perform.ensures ∙ ap (λ v. monitor_outcome a.self v a.workspace.now) is
    ∙ performed a.self a.word a.workspace.now ok (clear a.self.instance (event_in a.self a.word) (sym c.is_closed.ensures ∙ c.if-is_closed.false) (ap is_malformed (sym is) ∙ in_form e))

kept : (m : Monitor) (e : Event) (before : List ℕ) (n : ℕ) (x : Monitor) (w : List ℕ) → record { code = n; monitor = x; workspace = w } ≡ monitor_outcome m e before
    → n ≢ 0 → x ≡ m
kept m e before n x w k ne =
    let c : n ≡ code (own_refusals m.configuration m.instance e) = ap (λ (o : Outcome). o.code) k in
    ap (λ (o : Outcome). o.monitor) k ∙ rw (ne_eqb (code (own_refusals m.configuration m.instance e)) 0 (λ z. ne (c ∙ z)))

pub returns-in_err-perform : goal.returns-in_err-perform
returns-in_err-perform c =
    let a = c.args in
    let e = c.in_ok-event.event in
    let r = c.in_err-perform.field-0.0 in
    let p = err_from_is_err_and c.from_residual-in_err-perform.result c.from_residual-in_err-perform.ensures.1 in
    let ok = admission_long a.self _ (sym c.is_short.ensures ∙ c.if-is_short.false) ∙ sym c.in_ok-met.ensures.number in
    let some : c.read_event-event.result ≡ Some e = c.ok_or.ensures.ok_part ∙ ap result_ok c.in_ok-event.was in
    let is : as_event (Some e) ≡ event_in a.self a.word = ap as_event (sym some) ∙ c.read_event-event.ensures in
    let k = kept a.self (as_event (Some e)) a.workspace.now _ c.perform.new.self c.perform.new.workspace c.in_err-perform.ensures (refusal-number r) in
    rw (p.1, p.2) (rw k at (c.in_err-perform.ensures ∙ ap (λ v. monitor_outcome a.self v a.workspace.now) is
    ∙ performed a.self a.word a.workspace.now ok (clear a.self.instance (event_in a.self a.word) (sym c.is_closed.ensures ∙ c.if-is_closed.false) (ap is_malformed (sym is) ∙ in_form e))))
