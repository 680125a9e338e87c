-- A user without a role meets no unit term, and where one action met nothing the actions are not possible.
use mathlib.Core.Path.{◌≡◌, refl, sym, ap, ap₂, subst, fun_ext, ◌∙◌}
use mathlib.Core.Logic.{◌⊎◌, inl, inr}
use mathlib.Core.Bool.{Bool, true, false, not, ◌&&◌, cond, So, and-false, false≢true}
use mathlib.Core.List.{List, [], ◌∷◌, ◌++◌, map}
use Prim.Native.Nat.{ℕ, zero, suc, ◌+◌, ◌≤◌}
use native.Mathlib.Omega.{arith}
use lib.Dec.{eqb}
use Rattle.soda.specs.Bits.{bit, number}
use Rattle.soda.specs.Lists.{Split, nil, left, right}
use Rattle.soda.specs.Terms.{Op, either, both, together, apart, Term, everyone, role, set, ¬ᵗ◌, ◌⁺, bin, unit, size, subterms}
use Rattle.soda.specs.Roles.{UA, assigned, meets, meets_op}
use Rattle.soda.specs.Multisets.{Multiset, singleton, SatM, r1, r2, r3, r4, r5, r6, r7, r8, r9, r10, r11}
use Rattle.soda.specs.Tables.{join, table}
use Rattle.soda.specs.Laws.{UnassignedMeetsNothing, NotTwice, WhoSatisfiesHoldsRole, UnassignedNotesNothing, UnmetIsImpossible}
use Rattle.soda.proofs.Bools.{not_so, so_eq}
use Rattle.soda.proofs.Bits.{bit_of_zero}
use Rattle.soda.proofs.Roles.{some-role}
use Rattle.soda.proofs.Multisets.{singleton-is}
use Rattle.soda.proofs.Tables.{Judgement}
use Rattle.soda.proofs.Parts.{part_is-possible}

-- ── what they meet ──
neither : (op : Op) → meets_op op false false ≡ false
neither either = refl
neither both = refl
neither together = refl
neither apart = refl

pub unassigned_meets_nothing : UnassignedMeetsNothing
unassigned_meets_nothing everyone u = refl
unassigned_meets_nothing (role r) u = bit_of_zero r
unassigned_meets_nothing (set m) u = and-false (bit u m)
unassigned_meets_nothing (¬ᵗ φ) u = refl
unassigned_meets_nothing (φ ⁺) u = refl
unassigned_meets_nothing (bin op φ ψ) u = ap₂ (meets_op op) (unassigned_meets_nothing φ u) (unassigned_meets_nothing ψ u) ∙ neither op

pub not_twice : NotTwice
not_twice φ u h = go (eqb h 0) (meets φ u h) (λ z. ap (meets φ u) (so_eq h 0 z) ∙ unassigned_meets_nothing φ u)
  where
    go : (none m : Bool) → (So none → m ≡ false) → (not none && not (not none && not m)) ≡ m
    go true m k = sym (k refl)
    go false true k = refl
    go false false k = refl

-- by the rule that the multiset satisfies the term with
module _ (ua : UA) where
  abbrev Holds : ℕ → Type 0
  Holds p = (r : ℕ) × So (assigned ua p r)

  alone : (v p : ℕ) → 1 ≤ singleton v p → Holds v → Holds p
  alone v p k h = subst Holds (singleton-is v p k) h

  -- one of two numbers is not 0
  one : (a b : ℕ) → 1 ≤ a + b → (1 ≤ a) ⊎ (1 ≤ b)
  one zero b k = inr (omega arith)
  one (suc a) b k = inl (omega arith)

  by_rule : {U : Multiset} {φ : Term} → SatM ua U φ → (p : ℕ) → 1 ≤ U p → Holds p
  by_rule (r1 v h) p k = alone v p k ((some-role ua v).0 h)
  by_rule (r2 v r h) p k = alone v p k (r, h)
  by_rule (r3 v m h j) p k = alone v p k ((some-role ua v).0 j)
  by_rule (r4 v w h j) p k = alone v p k ((some-role ua v).0 h)
  by_rule (r5 v w h) p k = by_rule h p k
  by_rule (r6 v {U = U} w h j) p k = elim (one (singleton v p) (U p) k) [ inl x ↦ by_rule h p x | inr y ↦ by_rule j p y ]
  by_rule (r7 h) p k = by_rule h p k
  by_rule (r8 h) p k = by_rule h p k
  by_rule (r9 h j) p k = by_rule h p k
  by_rule (r10 {U = U} {W = W} h j) p k = elim (one (U p) (W p) k) [ inl x ↦ by_rule h p x | inr y ↦ by_rule j p y ]
  by_rule (r11 {U = U} {W = W} h j q) p k = elim (one (U p) (W p) k) [ inl x ↦ by_rule h p x | inr y ↦ by_rule j p y ]

pub who_satisfies_holds-role : WhoSatisfiesHoldsRole
who_satisfies_holds-role ua U φ s u k = by_rule ua s u k

pub unassigned_notes_nothing : UnassignedNotesNothing
unassigned_notes_nothing φ u =
    ap (λ (f : Term → Bool). number (map f (subterms φ))) (fun_ext (λ ψ. ap (λ b. unit ψ && b) (unassigned_meets_nothing ψ u) ∙ and-false (unit ψ)))
    ∙ go (subterms φ)
  where
    go : (l : List Term) → number (map (λ ψ. false) l) ≡ 0
    go [] = refl
    go (ψ ∷ l) = omega (arith, go l)

-- ── one action that met nothing ──
module _ {A : Type 0} (user : A → ℕ) (met : Term → ℕ → A → Bool) (a : A) (unmet : (ψ : Term) (k : ℕ) → met ψ k a ≡ false) where
  by_join : (op : Op) (f g : Judgement A) → f (a ∷ []) ≡ false → g (a ∷ []) ≡ false → join user op f g (a ∷ []) ≡ false
  by_join either f g p q = rw (p, q)
  by_join both f g p q = rw p
  by_join together f g p q = rw (p, q, and-false (f []))
  by_join apart f g p q = rw (p, q, and-false (f []))

  by_term : (φ : Term) (i : ℕ) → table user met true φ i (a ∷ []) ≡ false
  unfolding table
  by_term everyone i = unmet everyone i
  by_term (role r) i = unmet (role r) i
  by_term (set m) i = unmet (set m) i
  by_term (¬ᵗ φ) i = unmet (¬ᵗ φ) i
  by_term (φ ⁺) i = ap (λ b. b && true) (unmet φ (1 + i))
  by_term (bin op φ ψ) i = go (unit (bin op φ ψ)) (by_term φ (1 + i)) (by_term ψ (1 + i + size φ))
    where
      go : (b : Bool) → table user met true φ (1 + i) (a ∷ []) ≡ false → table user met true ψ (1 + i + size φ) (a ∷ []) ≡ false
          → cond b (met (bin op φ ψ) i a) (join user op (table user met true φ (1 + i)) (table user met true ψ (1 + i + size φ)) (a ∷ [])) ≡ false
      go true p q = unmet (bin op φ ψ) i
      go false p q = by_join op (table user met true φ (1 + i)) (table user met true ψ (1 + i + size φ)) p q

-- an action, and the others
behind : {A : Type 0} (t : List A) → Split t [] t
behind [] = nil
behind (b ∷ t) = right (behind t)

taken_out : {A : Type 0} (s t : List A) (a : A) → Split (s ++ (a ∷ t)) (a ∷ []) (s ++ t)
taken_out [] t a = left (behind t)
taken_out (b ∷ s) t a = right (taken_out s t a)

pub unmet_is_impossible : UnmetIsImpossible
unmet_is_impossible A user met φ i s t a unmet = not_so (table user met true φ i (s ++ (a ∷ t)))
    (λ h. false≢true (sym (by_term user met a unmet φ i) ∙ part_is-possible A user met φ i (s ++ (a ∷ t)) (a ∷ []) (s ++ t) (taken_out s t a) h))
