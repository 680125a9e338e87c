-- Which term stands at which word of a term, and the masks over a term's words.
use mathlib.Core.Path.{◌≡◌, refl, ◌∙◌, ap}
use mathlib.Core.Bool.{Bool, false}
use mathlib.Core.List.{List, [], ◌∷◌, map}
use Prim.Native.Nat.{ℕ, zero, suc, ◌+◌, ◌≤◌, ◌<◌}
use native.Mathlib.Omega.{arith}
use lib.ListN.{length, get_or, length-append, length-map, get_or-eq_default, get_or-append}
use lib.Seq.{get_or-append-add}
use Rattle.soda.specs.Bits.{bit}
use Rattle.soda.specs.Terms.{Op, Term, everyone, role, set, ¬ᵗ◌, ◌⁺, bin, size, subterms, term_at, marks}
use Rattle.soda.specs.Laws.{SizePos, SubtermsLength, FirstTerm, BitMarks, BitMarksPast}
use Rattle.soda.proofs.Bits.{bit-number}

pub size_pos : SizePos
size_pos everyone = omega arith
size_pos (role r) = omega arith
size_pos (set m) = omega arith
size_pos (¬ᵗ φ) = omega arith
size_pos (φ ⁺) = omega arith
size_pos (bin op φ ψ) = omega arith

pub subterms-length : SubtermsLength
subterms-length everyone = refl
subterms-length (role r) = refl
subterms-length (set m) = refl
subterms-length (¬ᵗ φ) = omega (arith, subterms-length φ)
subterms-length (φ ⁺) = omega (arith, subterms-length φ)
subterms-length (bin op φ ψ) = omega (arith, length-append (subterms φ) (subterms ψ), subterms-length φ, subterms-length ψ)

pub first-term : FirstTerm
first-term everyone = refl
first-term (role r) = refl
first-term (set m) = refl
first-term (¬ᵗ φ) = refl
first-term (φ ⁺) = refl
first-term (bin op φ ψ) = refl

-- ── standing ──
-- φ stands in the term ρ from word i on
pub record Stands (ρ : Term) (i : ℕ) (φ : Term) : Type 0 where
  pub inside : i + size φ ≤ size ρ
  pub same : (k : ℕ) → k < size φ → term_at ρ (i + k) ≡ term_at φ k

pub stands_whole : (ρ : Term) → Stands ρ 0 ρ
stands_whole ρ = record { inside = omega arith; same = λ k l. let e : 0 + k ≡ k = omega arith in ap (term_at ρ) e }

pub stands_here : {ρ : Term} {i : ℕ} {φ : Term} → Stands ρ i φ → term_at ρ i ≡ φ
stands_here {ρ} {i} {φ} s = let e : i ≡ i + 0 = omega arith in ap (term_at ρ) e ∙ s.same 0 (size_pos φ) ∙ first-term φ

-- the side of a word with one side
module _ {ρ : Term} {i : ℕ} where
  inner : (φ ψ : Term) → size φ ≡ 1 + size ψ → ((k : ℕ) → term_at φ (suc k) ≡ term_at ψ k) → Stands ρ i φ → Stands ρ (1 + i) ψ
  inner φ ψ n e s = record {
    inside = omega (arith, s.inside);
    same = λ k l. let p : 1 + i + k ≡ i + suc k = omega arith in ap (term_at ρ) p ∙ s.same (suc k) (omega arith) ∙ e k;
  }

  pub stands_not : {φ : Term} → Stands ρ i (¬ᵗ φ) → Stands ρ (1 + i) φ
  stands_not {φ} s = inner (¬ᵗ φ) φ refl (λ k. refl) s

  pub stands_plus : {φ : Term} → Stands ρ i (φ ⁺) → Stands ρ (1 + i) φ
  stands_plus {φ} s = inner (φ ⁺) φ refl (λ k. refl) s

  -- the sides of a word with two
  pub stands_left : {op : Op} {φ ψ : Term} → Stands ρ i (bin op φ ψ) → Stands ρ (1 + i) φ
  stands_left {op} {φ} {ψ} s = record {
    inside = omega (arith, s.inside);
    same = λ k l.
        let p : 1 + i + k ≡ i + suc k = omega arith in
        ap (term_at ρ) p ∙ s.same (suc k) (omega arith) ∙ get_or-append (subterms φ) (subterms ψ) everyone k (omega (arith, subterms-length φ));
  }

  pub stands_right : {op : Op} {φ ψ : Term} → Stands ρ i (bin op φ ψ) → Stands ρ (1 + i + size φ) ψ
  stands_right {op} {φ} {ψ} s = record {
    inside = omega (arith, s.inside);
    same = λ k l.
        let p : 1 + i + size φ + k ≡ i + suc (length (subterms φ) + k) = omega (arith, subterms-length φ) in
        ap (term_at ρ) p ∙ s.same (suc (length (subterms φ) + k)) (omega (arith, subterms-length φ))
        ∙ get_or-append-add (subterms φ) (subterms ψ) k everyone;
  }

-- ── masks ──
-- an element of a mapped list, whatever stands past the ends
map_at : {A B : Type 0} (f : A → B) (l : List A) (i : ℕ) (a : A) (b : B) → i < length l → get_or (map f l) i b ≡ f (get_or l i a)
map_at f [] i a b h = absurd (omega arith)
map_at f (x ∷ l) zero a b h = refl
map_at f (x ∷ l) (suc i) a b h = map_at f l i a b (omega arith)

pub bit-marks : BitMarks
bit-marks f ρ i h = bit-number (map f (subterms ρ)) i ∙ map_at f (subterms ρ) i everyone false (omega (arith, subterms-length ρ))

pub bit-marks-past : BitMarksPast
bit-marks-past f ρ i h = bit-number (map f (subterms ρ)) i
    ∙ get_or-eq_default (map f (subterms ρ)) false (omega (arith, length-map (subterms ρ) f, subterms-length ρ))

-- the bit of a term that stands at word i
pub bit_standing : (f : Term → Bool) {ρ : Term} {i : ℕ} {φ : Term} → Stands ρ i φ → bit i (marks f ρ) ≡ f φ
bit_standing f {ρ} {i} {φ} s = bit-marks f ρ i (omega (arith, s.inside, size_pos φ)) ∙ ap f (stands_here s)
