-- The terms of a well-formed policy at their words: each is well formed, and its sides stand where `right_sides` says.
use mathlib.Core.Path.{◌≡◌, refl, sym, ◌∙◌, ap, subst}
use mathlib.Core.Bool.{So, ◌||◌, false≢true}
use mathlib.Core.List.{◌++◌}
use mathlib.Core.Logic.{◌⊎◌, inl, inr}
use Prim.Native.Nat.{ℕ, zero, suc, ◌+◌, ◌-◌, ◌≤◌, ◌<◌}
use native.Mathlib.Omega.{arith}
use lib.ListN.{length, get_or, length-append, get_or-append}
use lib.Seq.{get_or-append-add}
use Rattle.soda.specs.Terms.{Op, together, apart, Term, everyone, role, set, ¬ᵗ◌, ◌⁺, bin, unit, well_formed, size, subterms, term_at}
use Rattle.soda.proofs.Bools.{and_split, lt_or_le}
use Rattle.soda.proofs.Terms.{size_pos, subterms-length, Stands, stands_whole, stands_not, stands_plus, stands_left, stands_right}
use Rattle.shape.specs.Shapes.{is_op, right_sides}
use Rattle.workspace.specs.Private.{Ascending}

pub rights-length : (i : ℕ) (φ : Term) → length (right_sides i φ) ≡ size φ
rights-length i everyone = refl
rights-length i (role r) = refl
rights-length i (set m) = refl
rights-length i (¬ᵗ φ) = omega (arith, rights-length (1 + i) φ)
rights-length i (φ ⁺) = omega (arith, rights-length (1 + i) φ)
rights-length i (bin op φ ψ) =
    omega (arith, length-append (right_sides (1 + i) φ) (right_sides (1 + i + size φ) ψ), rights-length (1 + i) φ, rights-length (1 + i + size φ) ψ)

-- one word, counted from a term and from its side
moved : (ρ : Term) (j k : ℕ) → j ≡ k → get_or (right_sides 0 ρ) j 0 ≡ get_or (right_sides 0 ρ) k 0
moved ρ j k e = ap (λ n. get_or (right_sides 0 ρ) n 0) e

-- φ stands in ρ from word i on, and is well formed
pub record Stood (ρ : Term) (i : ℕ) (φ : Term) : Type 0 where
  pub stands : Stands ρ i φ
  pub formed : So (well_formed φ)
  pub sides : (k : ℕ) → k < size φ → get_or (right_sides 0 ρ) (i + k) 0 ≡ get_or (right_sides i φ) k 0

pub stood_whole : (ρ : Term) → So (well_formed ρ) → Stood ρ 0 ρ
stood_whole ρ w = record { stands = stands_whole ρ; formed = w; sides = λ k l. moved ρ (0 + k) k (omega arith) }

module _ {ρ : Term} {i : ℕ} where
  pub stood_not : {φ : Term} → Stood ρ i (¬ᵗ φ) → Stood ρ (1 + i) φ
  stood_not {φ} s = record {
    stands = stands_not s.stands;
    formed = (and_split (unit φ) (well_formed φ) s.formed).1;
    sides = λ k l. moved ρ (1 + i + k) (i + suc k) (omega arith) ∙ s.sides (suc k) (omega arith);
  }

  pub stood_plus : {φ : Term} → Stood ρ i (φ ⁺) → Stood ρ (1 + i) φ
  stood_plus {φ} s = record {
    stands = stands_plus s.stands;
    formed = (and_split (unit φ) (well_formed φ) s.formed).1;
    sides = λ k l. moved ρ (1 + i + k) (i + suc k) (omega arith) ∙ s.sides (suc k) (omega arith);
  }

  pub stood_left : {op : Op} {φ ψ : Term} → Stood ρ i (bin op φ ψ) → Stood ρ (1 + i) φ
  stood_left {op} {φ} {ψ} s = record {
    stands = stands_left s.stands;
    formed = (and_split (well_formed φ) (well_formed ψ) s.formed).0;
    sides = λ k l. moved ρ (1 + i + k) (i + suc k) (omega arith) ∙ s.sides (suc k) (omega arith)
        ∙ get_or-append (right_sides (1 + i) φ) (right_sides (1 + i + size φ) ψ) 0 k (omega (arith, rights-length (1 + i) φ));
  }

  pub stood_right : {op : Op} {φ ψ : Term} → Stood ρ i (bin op φ ψ) → Stood ρ (1 + i + size φ) ψ
  stood_right {op} {φ} {ψ} s = record {
    stands = stands_right s.stands;
    formed = (and_split (well_formed φ) (well_formed ψ) s.formed).1;
    sides = λ k l.
        let n = rights-length (1 + i) φ in
        moved ρ (1 + i + size φ + k) (i + suc (length (right_sides (1 + i) φ) + k)) (omega arith) ∙ s.sides (suc (length (right_sides (1 + i) φ) + k)) (omega arith)
        ∙ get_or-append-add (right_sides (1 + i) φ) (right_sides (1 + i + size φ) ψ) k 0;
  }

  -- where the right side of an operator begins
  pub right_side : {op : Op} {φ ψ : Term} → Stood ρ i (bin op φ ψ) → get_or (right_sides 0 ρ) i 0 ≡ 1 + i + size φ
  right_side s = moved ρ i (i + 0) (omega arith) ∙ s.sides 0 (omega arith)

  -- of together and apart it begins within the policy
  pub right-inside : (φ : Term) → Stood ρ i φ → So (is_op together φ || is_op apart φ) → get_or (right_sides 0 ρ) i 0 < size ρ
  right-inside everyone s o = absurd (false≢true o)
  right-inside (role r) s o = absurd (false≢true o)
  right-inside (set m) s o = absurd (false≢true o)
  right-inside (¬ᵗ φ) s o = absurd (false≢true o)
  right-inside (φ ⁺) s o = absurd (false≢true o)
  right-inside (bin op φ ψ) s o = omega (arith, right_side s, s.stands.inside, size_pos ψ)

  -- of any word it begins behind the word, at most where the term ends
  pub right-behind : (φ : Term) → Stood ρ i φ → (i < get_or (right_sides 0 ρ) i 0) × (get_or (right_sides 0 ρ) i 0 ≤ i + size φ)
  right-behind φ s = let e = moved ρ i (i + 0) (omega arith) ∙ s.sides 0 (size_pos φ) in by φ e
    where
      by : (φ : Term) → get_or (right_sides 0 ρ) i 0 ≡ get_or (right_sides i φ) 0 0 → (i < get_or (right_sides 0 ρ) i 0) × (get_or (right_sides 0 ρ) i 0 ≤ i + size φ)
      by everyone e = omega arith
      by (role r) e = omega arith
      by (set m) e = omega arith
      by (¬ᵗ φ) e = omega arith
      by (φ ⁺) e = omega arith
      by (bin op φ ψ) e = omega arith

-- a term stands at each word
module _ {ρ : Term} where
  first : {i : ℕ} {φ : Term} → Stood ρ i φ → Stood ρ (i + 0) φ
  first {i} {φ} s = let e : i ≡ i + 0 = omega arith in subst (λ n. Stood ρ n φ) e s

  next : (i k : ℕ) {φ : Term} → Stood ρ (1 + i + k) φ → Stood ρ (i + suc k) φ
  next i k {φ} s = let e : 1 + i + k ≡ i + suc k = omega arith in subst (λ n. Stood ρ n φ) e s

  pub stood_at : (i : ℕ) (φ : Term) → Stood ρ i φ → (k : ℕ) → k < size φ → Stood ρ (i + k) (term_at φ k)
  stood_at i everyone s zero h = first s
  stood_at i everyone s (suc k) h = absurd (omega arith)
  stood_at i (role r) s zero h = first s
  stood_at i (role r) s (suc k) h = absurd (omega arith)
  stood_at i (set m) s zero h = first s
  stood_at i (set m) s (suc k) h = absurd (omega arith)
  stood_at i (¬ᵗ φ) s zero h = first s
  stood_at i (¬ᵗ φ) s (suc k) h = next i k (stood_at (1 + i) φ (stood_not s) k (omega arith))
  stood_at i (φ ⁺) s zero h = first s
  stood_at i (φ ⁺) s (suc k) h = next i k (stood_at (1 + i) φ (stood_plus s) k (omega arith))
  stood_at i (bin op φ ψ) s zero h = first s
  stood_at i (bin op φ ψ) s (suc k) h = go (lt_or_le k (size φ)) (stood_at (1 + i) φ (stood_left s)) (stood_at (1 + i + size φ) ψ (stood_right s))
    where
      go : (k < size φ) ⊎ (size φ ≤ k) → ((m : ℕ) → m < size φ → Stood ρ (1 + i + m) (term_at φ m)) → ((m : ℕ) → m < size ψ → Stood ρ (1 + i + size φ + m) (term_at ψ m))
          → Stood ρ (i + suc k) (get_or (subterms φ ++ subterms ψ) k everyone)
      go (inl l) f g = subst (λ t. Stood ρ (i + suc k) t) (sym (get_or-append (subterms φ) (subterms ψ) everyone k (omega (arith, subterms-length φ)))) (next i k (f k l))
      go (inr l) f g =
          let n = subterms-length φ in
          let e : length (subterms φ) + (k - size φ) ≡ k = omega arith in
          let p : 1 + i + size φ + (k - size φ) ≡ i + suc k = omega arith in
          subst (λ t. Stood ρ (i + suc k) t) (sym (get_or-append-add (subterms φ) (subterms ψ) (k - size φ) everyone) ∙ ap (λ m. get_or (subterms φ ++ subterms ψ) m everyone) e)
          (subst (λ m. Stood ρ m (term_at ψ (k - size φ))) p (g (k - size φ) (omega arith)))

pub stood : (ρ : Term) → So (well_formed ρ) → (i : ℕ) → i < size ρ → Stood ρ i (term_at ρ i)
stood ρ w i h = let e : 0 + i ≡ i = omega arith in subst (λ n. Stood ρ n (term_at ρ i)) e (stood_at 0 ρ (stood_whole ρ w) i h)

-- each right side begins behind its word
pub ascending : (ρ : Term) → So (well_formed ρ) → size ρ ≤ 31 → Ascending (right_sides 0 ρ)
ascending ρ w short = record { short = omega (arith, n, short); behind = λ i h. (at i h).0; inside = λ i h. (at i h).1 }
  where
    n : length (right_sides 0 ρ) ≡ size ρ
    n = rights-length 0 ρ

    at : (i : ℕ) → i < length (right_sides 0 ρ) → (i < get_or (right_sides 0 ρ) i 0) × (get_or (right_sides 0 ρ) i 0 < 32)
    at i h =
        let st = stood ρ w i (omega (arith, n)) in
        let b = right-behind _ st in
        (b.0, omega (arith, b.1, st.stands.inside, short))
