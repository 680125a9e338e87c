-- The letter that is kept is document 01's: an accepted action sets it by the actions with the new one, which are then the taken ones.
use mathlib.Core.Path.{◌≡◌, refl, sym, ap, ap₂}
use mathlib.Core.Bool.{Bool, false, cond}
use mathlib.Core.List.{List}
use native.Mathlib.Omega.{arith}
use lib.Dec.{eqb}
use lib.ListN.{length}
use borrow.Author.Tests.{leb-false}
use Rattle.soda.specs.Bits.{bit}
use Rattle.soda.specs.Tables.{satisfied}
use Rattle.soda.specs.declared.Action.{Action}
use Rattle.soda.proofs.Bools.{by_test, so_eq}
use Rattle.soda.proofs.Tables.{empty_set}
use Rattle.policy.proofs.Refusals.{clear}
use Rattle.instance.specs.Letters.{letter_d, open_letter}
use Rattle.instance.specs.Instances.{term, noted_for}
use Rattle.instance.specs.Steps.{leads_to, state_of}
use Rattle.instance.proofs.Formed.{taken_more}
use Rattle.monitor.specs.Monitors.{fresh}
use Rattle.monitor.specs.Events.{Event, Acts, Grants, Revokes, Closes, Malformed, is_short, event_in, own_refusals, advanced, outcome}
use Rattle.monitor.specs.Statuses.{letter_of}
use Rattle.monitor.specs.Laws.{Passed, OpenedHasLetter, EventKeepsLetter}
use Rattle.monitor.proofs.Order.{accepted_has_passed}

-- nothing satisfies with no action
pub opened_has_letter : OpenedHasLetter
unfolding fresh
opened_has_letter o =
    ap open_letter (sym (empty_set Action (λ a. a.user) (λ φ j a. bit j a.met) false (term (fresh o).instance) 0))

pub event_keeps_letter : EventKeepsLetter
unfolding outcome
event_keeps_letter m w before n h =
    by_test (eqb (outcome m w before).code 0) (λ t. rw t (go (event_in m w) (accepted_has_passed m (event_in m w) (is_short w (length before)) (so_eq (outcome m w before).code 0 t)))) (λ f. rw f h)
  where
    go : (e : Event) → Passed m e (is_short w (length before))
        → (advanced m.configuration m.instance e).status ≡ letter_of (advanced m.configuration m.instance e)
    go (Acts u a) p =
        let i = m.instance in
        let c = m.configuration in
        let k = clear (own_refusals c i (Acts u a)) refl p.own in
        let more = taken_more i (noted_for c i u) (state_of (leads_to i a)) (omega (arith, n, leb-false 12 i.taken k.1.1.0)) in
        sym (ap₂ (λ (b : Bool) (l : List Action). cond b letter_d (open_letter (satisfied (term i) 0 l))) p.is_open more)
    go (Grants u r) p = h
    go (Revokes u r) p = h
    go Closes p = refl
    go Malformed p = h
