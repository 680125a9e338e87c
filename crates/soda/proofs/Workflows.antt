-- Laws of who is authorized, of where the actions of a trace lead, and of transitions of which no two have the same state and action.
use Rattle.std.specs.Prelude.{Option, Some, None}
use mathlib.Core.Path.{◌≡◌, refl, sym, ap, ap₂, ◌∙◌}
use mathlib.Core.Logic.{◌↔◌, inl, inr}
use mathlib.Core.Bool.{Bool, true, false, So, not, ◌&&◌, ◌||◌, and_assoc, and-false, cond, false≢true}
use mathlib.Core.List.{[], ◌∷◌, ◌++◌}
use Prim.Native.Nat.{ℕ, zero, suc, ◌<◌}
use native.Mathlib.Omega.{arith}
use lib.Dec.{eqb}
use lib.ListN.{length, get_or, replicate, get_or-eq_default}
use Rattle.soda.specs.Bits.{bit}
use Rattle.soda.specs.Lists.{any}
use Rattle.soda.specs.Roles.{UA, roles, grant, revoke, PA, permitted, authorized}
use Rattle.soda.specs.Traces.{business, add_ua, rm_ua, Trace, upd}
use Rattle.soda.specs.Workflows.{Transitions, no_transition, leaves, deterministic, successor, follow, reached, is_somewhere, authorized_all}
use Rattle.soda.specs.declared.Transition.{Transition}
use Rattle.soda.specs.Secure.{AuthorizedIsSomeRole, ZeroRowsGiveNothing}
use Rattle.soda.proofs.Bools.{never, not_so, same_test, and_split, and-join, so_eq, eqb_swap, lt_or_le}
use Rattle.soda.proofs.Bits.{bit_of_zero}
use Rattle.soda.proofs.Lists.{any-range_out, any_below, zeros-behind}
use Rattle.soda.proofs.Splits.{any_append, any_at}

-- ── who is authorized ──
-- a role past the rows gives nothing
permitted-inside : (pa : PA) (r a : ℕ) → So (permitted pa r a) → r < length pa
permitted-inside pa r a h = elim (lt_or_le r (length pa)) [
  | inl l ↦ l
  | inr g ↦ never (rw (get_or-eq_default pa 0 g, bit_of_zero a, and-false) at h)
]

-- by one of the roles of the set h
pub authorized_by_one : (pa : PA) (h a : ℕ) → So (authorized pa h a) ↔ ((r : ℕ) × So (bit r h) × So (permitted pa r a))
authorized_by_one pa h a = (
  λ x. let (r, y) = any-range_out (λ r. bit r h && permitted pa r a) 0 (length pa) x in
      let (b, p) = and_split (bit r h) (permitted pa r a) y in
      (r, b, p),
  λ x. any_below (λ r. bit r h && permitted pa r a) (length pa) x.0 (permitted-inside pa x.0 a x.2)
      (and-join (bit x.0 h) (permitted pa x.0 a) x.1 x.2),
)

pub authorized-is-some-role : AuthorizedIsSomeRole
authorized-is-some-role ua pa u a = authorized_by_one pa (roles ua u) a

-- a user without a role is authorized for nothing
pub authorized-none : (pa : PA) (a : ℕ) → authorized pa 0 a ≡ false
authorized-none pa a = not_so (authorized pa 0 a) (λ x. let (r, b, p) = (authorized_by_one pa 0 a).0 x in false≢true (sym (bit_of_zero r) ∙ b))

pub zero-rows_give_nothing : ZeroRowsGiveNothing
zero-rows_give_nothing pa k h a = same_test (authorized (pa ++ replicate k 0) h a) (authorized pa h a)
    (λ x. let (r, b, p) = (authorized_by_one (pa ++ replicate k 0) h a).0 x in (authorized_by_one pa h a).1 (r, b, sym (same r) ∙ p))
    (λ x. let (r, b, p) = (authorized_by_one pa h a).0 x in (authorized_by_one (pa ++ replicate k 0) h a).1 (r, b, same r ∙ p))
  where
    same : (r : ℕ) → permitted (pa ++ replicate k 0) r a ≡ permitted pa r a
    same r = rw (zeros-behind pa k r)

-- two traces in a row: the second with the roles that the first leaves
pub authorized_append : (pa : PA) (s t : Trace) (ua : UA)
    → authorized_all pa ua (s ++ t) ≡ (authorized_all pa ua s && authorized_all pa (upd ua s) t)
authorized_append pa [] t ua = refl
authorized_append pa (business u a ∷ s) t ua = ap (λ (b : Bool). authorized pa (roles ua u) a && b) (authorized_append pa s t ua)
    ∙ sym (and_assoc (authorized pa (roles ua u) a) (authorized_all pa ua s) (authorized_all pa (upd ua s) t))
authorized_append pa (add_ua u r ∷ s) t ua = authorized_append pa s t (grant ua u r)
authorized_append pa (rm_ua u r ∷ s) t ua = authorized_append pa s t (revoke ua u r)

-- ── where actions lead ──
follow_twice : (x : Option ℕ) (f g h : ℕ → Option ℕ) → ((n : ℕ) → f n ≡ follow (g n) h) → follow x f ≡ follow (follow x g) h
follow_twice (Some n) f g h e = e n
follow_twice None f g h e = refl

pub reached_append : (ts : Transitions) (t t' : Trace) (s : ℕ) → reached ts s (t ++ t') ≡ follow (reached ts s t) (λ n. reached ts n t')
reached_append ts [] t' s = refl
reached_append ts (business u a ∷ t) t' s = follow_twice (successor ts s a) _ _ _ (λ n. reached_append ts t t' _)
reached_append ts (add_ua u r ∷ t) t' s = reached_append ts t t' s
reached_append ts (rm_ua u r ∷ t) t' s = reached_append ts t t' s

-- ── no two transitions with the same state and action ──
leaves_swap : (x y : Transition) → leaves x.state x.action y ≡ leaves y.state y.action x
leaves_swap x y = ap₂ ◌&&◌ (eqb_swap y.state x.state) (eqb_swap y.action x.action)

pub deterministic_append : (l : Transitions) (x : Transition)
    → deterministic (l ++ (x ∷ [])) ≡ (deterministic l && not (any (leaves x.state x.action) l))
deterministic_append [] x = refl
deterministic_append (y ∷ l) x =
    ap₂ (λ (a d : Bool). not a && d)
    (any_append (leaves y.state y.action) l (x ∷ [])
    ∙ ap (λ (b : Bool). any (leaves y.state y.action) l || (b || false)) (leaves_swap y x))
    (deterministic_append l x)
    ∙ regroup (any (leaves y.state y.action) l) (leaves x.state x.action y) (deterministic l) (any (leaves x.state x.action) l)
  where
    regroup : (a p d b : Bool) → (not (a || (p || false)) && (d && not b)) ≡ ((not a && d) && not (p || b))
    regroup true p d b = refl
    regroup false true true b = refl
    regroup false true false b = refl
    regroup false false d b = refl

pub deterministic_front : (l r : Transitions) → So (deterministic (l ++ r)) → So (deterministic l)
deterministic_front [] r h = refl
deterministic_front (x ∷ l) r h =
    let (n, d) = and_split (not (any (leaves x.state x.action) (l ++ r))) (deterministic (l ++ r)) h in
    and-join (not (any (leaves x.state x.action) l)) (deterministic l)
    (neither (any (leaves x.state x.action) l) (any (leaves x.state x.action) r)
    (sym (ap not (any_append (leaves x.state x.action) l r)) ∙ n))
    (deterministic_front l r d)
  where
    neither : (a b : Bool) → So (not (a || b)) → So (not a)
    neither true b e = e
    neither false b e = refl

-- ── the transitions that leave a state by an action ──
state_of : Option ℕ → ℕ
state_of (Some n) = n
state_of None = 0

-- the successor is the next state of one of them
pub record Leaving (ts : Transitions) (s a n : ℕ) : Type 0 where
  pub place : ℕ
  pub inside : place < length ts
  pub fits : So (leaves s a (get_or ts place no_transition))
  pub leads_there : (get_or ts place no_transition).next ≡ n

pub leaving : (ts : Transitions) (s a n : ℕ) → successor ts s a ≡ Some n → Leaving ts s a n
unfolding state_of
leaving [] s a n e = never (ap is_somewhere e)
leaving (x ∷ l) s a n e = go (leaves s a x) refl e (leaving l s a n)
  where
    go : (b : Bool) → leaves s a x ≡ b → cond b (Some x.next) (successor l s a) ≡ Some n → (successor l s a ≡ Some n → Leaving l s a n)
        → Leaving (x ∷ l) s a n
    go true y e ih = record { place = 0; inside = omega arith; fits = y; leads_there = ap state_of e }
    go false y e ih = let r = ih e in
        record { place = suc r.place; inside = let b = r.inside in omega arith; fits = r.fits; leads_there = r.leads_there }

-- where no two have the same state and action, each of them is the one
pub successor_at : (ts : Transitions) (s a k : ℕ) → So (deterministic ts) → k < length ts → So (leaves s a (get_or ts k no_transition))
    → successor ts s a ≡ Some (get_or ts k no_transition).next
successor_at [] s a k d b h = absurd (omega arith)
successor_at (x ∷ l) s a zero d b h = ap (λ (y : Bool). cond y (Some x.next) (successor l s a)) h
successor_at (x ∷ l) s a (suc k) d b h =
    let (n, m) = and_split (not (any (leaves x.state x.action) l)) (deterministic l) d in
    ap (λ (y : Bool). cond y (Some x.next) (successor l s a)) (not_so (leaves s a x) (λ y. two y n)) ∙ successor_at l s a k m (omega arith) h
  where
    two : So (leaves s a x) → So (not (any (leaves x.state x.action) l)) → ⊥
    two y n =
        let (p, q) = and_split (eqb x.state s) (eqb x.action a) y in
        let z = any_at (leaves s a) l k no_transition (omega arith) h in
        false≢true (sym (ap not (ap₂ (λ (i j : ℕ). any (leaves i j) l) (so_eq x.state s p) (so_eq x.action a q) ∙ z)) ∙ n)
