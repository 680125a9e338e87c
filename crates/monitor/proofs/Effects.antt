-- An action sets one place, a grant or revocation one bit of one row, a close the mark; an accepted event's tests bound its user.
use mathlib.Core.Path.{◌≡◌, refl, ap, ◌∙◌}
use mathlib.Core.Bool.{Bool, true, false, not, ◌&&◌, ◌||◌, cond}
use Prim.Native.Nat.{ℕ, ◌<◌}
use native.Mathlib.Omega.{arith}
use lib.Dec.{eqb}
use lib.ListN.{length, set as put}
use lib.Seq.{get_or-set_same, get_or-set_other, set-get_or}
use borrow.Author.Tests.{leb-false, ne_eqb, not-true}
use Rattle.soda.specs.Bits.{bit, set_bit, clear_bit}
use Rattle.soda.specs.Roles.{assigned}
use Rattle.soda.specs.declared.Action.{Action}
use Rattle.soda.proofs.Bools.{eq_so}
use Rattle.soda.proofs.Bits.{bit-set_bit, bit-clear_bit}
use Rattle.policy.proofs.Refusals.{clear}
use Rattle.configuration.specs.declared.Configuration.{Configuration}
use Rattle.instance.specs.declared.Instance.{Instance}
use Rattle.configuration.specs.Configurations.{held, with_row, with_grant, without_grant}
use Rattle.instance.specs.Instances.{no_action, noted_for, with_action, with_status, as_closed}
use Rattle.instance.specs.Steps.{leads_to, state_of}
use Rattle.monitor.specs.Events.{Event, Acts, Grants, Revokes, Closes, Malformed, is_short, event_in, own_refusals, applied, event_code, outcome}
use Rattle.monitor.specs.Laws.{Passed}
use Rattle.monitor.specs.Effects.{ActionAlone, BitAlone, MarkAlone, OwnPart, AcceptedAltersItsPart, HeldAltersNothing, RefusalAltersNothing}
use Rattle.monitor.specs.Private.{Entered}
use Rattle.configuration.proofs.Formed.{users_within}
use Rattle.monitor.proofs.Formed.{formed}
use Rattle.monitor.proofs.Reading.{declared, entered}
use Rattle.monitor.proofs.Order.{accepted_has_passed, workspace-kept}

module _ (i : Instance) where
  action_alone : (a : Action) (s l : ℕ) → i.taken < length i.actions → ActionAlone i a s l (with_status (with_action i a s) l)
  action_alone a s l h = record {
    same_policy = refl;
    same_workflow = refl;
    moved = refl;
    lettered = refl;
    same_mark = refl;
    one_more = refl;
    here = get_or-set_same i.actions i.taken a no_action h;
    elsewhere = λ k ne. get_or-set_other i.actions i.taken k a no_action ne;
  }

  mark_alone : MarkAlone i (as_closed i)
  mark_alone = record { same_policy = refl; same_workflow = refl; same_state = refl; same_actions = refl; same_number = refl; here = refl; lettered = refl }

module _ (c : Configuration) where
  -- a row that differs from the one before in bit r alone
  row_alone : (u r h : ℕ) (b : Bool) → u < length c.user_roles
      → ((s : ℕ) → bit s h ≡ cond (eqb s r) b (assigned c.user_roles u s)) → BitAlone c u r b (with_row c u h)
  row_alone u r h b within new = record {
    same_permissions = refl;
    same_users = refl;
    same_roles = refl;
    here = at r ∙ rw (eq_so r r refl);
    other_roles = λ s ne. at s ∙ rw (ne_eqb s r ne);
    other_users = λ v ne. get_or-set_other c.user_roles u v h 0 ne;
  }
    where
      at : (s : ℕ) → assigned (put c.user_roles u h) u s ≡ cond (eqb s r) b (assigned c.user_roles u s)
      at s = ap (bit s) (get_or-set_same c.user_roles u h 0 within) ∙ new s

  module _ (u r : ℕ) where
    grant_alone : u < length c.user_roles → BitAlone c u r true (with_grant c u r)
    grant_alone h = row_alone u r (set_bit r (held c u)) true h (λ s. bit-set_bit r s (held c u) ∙ pick (eqb s r) (assigned c.user_roles u s))
      where
        pick : (a b : Bool) → (a || b) ≡ cond a true b
        pick true b = refl
        pick false b = refl

    revoke_alone : u < length c.user_roles → BitAlone c u r false (without_grant c u r)
    revoke_alone h = row_alone u r (clear_bit r (held c u)) false h (λ s. bit-clear_bit r s (held c u) ∙ pick (eqb s r) (assigned c.user_roles u s))
      where
        pick : (a b : Bool) → (not a && b) ≡ cond a false b
        pick true b = refl
        pick false b = refl

  -- a row that is put back as it was
  row_kept : (u h : ℕ) → h ≡ held c u → with_row c u h ≡ c
  row_kept u h e = rw (e, set-get_or c.user_roles u 0)

pub held_alters_nothing : HeldAltersNothing
unfolding set_bit clear_bit
held_alters_nothing m u r =
    let c = m.configuration in (
      λ h. rw (row_kept c u (set_bit r (held c u)) (rw h)),
      λ h. rw (row_kept c u (clear_bit r (held c u)) (rw (not-true (assigned c.user_roles u r) h))),
    )

pub accepted_alters_its_part : AcceptedAltersItsPart
unfolding outcome
accepted_alters_its_part m w before n z =
    let e = event_in m w in
    let p = accepted_has_passed m e (is_short w (length before)) z in
    let c = m.configuration in
    rw z (go e p (entered c e (declared c.users c.roles w) p.in_layout))
  where
    go : (e : Event) → Passed m e (is_short w (length before)) → Entered m.configuration e → OwnPart m e (applied m e)
    go (Acts u a) p d =
        let k = clear (own_refusals m.configuration m.instance (Acts u a)) refl p.own in
        (refl, action_alone m.instance (noted_for m.configuration m.instance u) (state_of (leads_to m.instance a)) _ (omega (arith, leb-false 12 m.instance.taken k.1.1.0)))
    go (Grants u r) p d = (refl, grant_alone m.configuration u r (omega (arith, d.0, users_within m.configuration (formed m p.is_well).in_configuration)))
    go (Revokes u r) p d = (refl, revoke_alone m.configuration u r (omega (arith, d.0, users_within m.configuration (formed m p.is_well).in_configuration)))
    go Closes p d = (refl, mark_alone m.instance)
    go Malformed p d = d

pub refusal_alters_nothing : RefusalAltersNothing
unfolding outcome
refusal_alters_nothing m w before ne =
    let e = event_in m w in
    let k = event_code m w (length before) in
    (rw (ne_eqb k 0 ne), λ p. workspace-kept m.configuration m.instance e before k (ne_eqb k 0 ne) (ne_eqb k 9 p))
