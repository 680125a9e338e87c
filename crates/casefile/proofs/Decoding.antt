-- Numbers read one after the other: a list of one more ends in the next, and so does an array filled one place further.
use mathlib.Core.Path.{◌≡◌, refl, sym, ap, ◌∙◌}
use mathlib.Core.List.{List, [], ◌∷◌, ◌++◌}
use Prim.Native.Nat.{ℕ, zero, suc, ◌+◌, ◌*◌, ◌<◌}
use native.Mathlib.Numerals.{add-one}
use native.Mathlib.Nat.{suc-mul}
use native.Mathlib.Omega.{arith}
use lib.ListN.{length, take, set}
use lib.Seq.{take-suc-set}
use Rattle.casefile.specs.Cases.{numbers}

module _ {A : Type 0} (at : ℕ → A) (width : ℕ) where
  pub numbers-length : (k n : ℕ) → length (numbers at width k n) ≡ n
  numbers-length k zero = refl
  numbers-length k (suc n) = ap suc (numbers-length (k + width) n)

  numbers_end : (k n : ℕ) → numbers at width k (suc n) ≡ numbers at width k n ++ (at (k + n * width) ∷ [])
  numbers_end k zero = let e : k ≡ k + 0 * width = omega arith in ap (λ (m : ℕ). at m ∷ []) e
  numbers_end k (suc n) =
      let e : k + width + n * width ≡ k + suc n * width = omega (arith, suc-mul n width) in
      ap (λ (l : List A). at k ∷ l) (numbers_end (k + width) n ∙ ap (λ (m : ℕ). numbers at width (k + width) n ++ (at m ∷ [])) e)

  pub numbers-next : (k n : ℕ) → numbers at width k (n + 1) ≡ numbers at width k n ++ (at (k + n * width) ∷ [])
  numbers-next k n = rw (add-one n) (numbers_end k n)

  -- the first i places hold the first i numbers; the next one is v
  pub filled_next : (xs : List A) (k i : ℕ) (v : A) → i < length xs → take i xs ≡ numbers at width k i → v ≡ at (k + i * width)
      → take (i + 1) (set xs i v) ≡ numbers at width k (i + 1)
  filled_next xs k i v within e f =
      rw (add-one i) (take-suc-set xs i v within)
      ∙ (λ j. e j ++ (f j ∷ []))
      ∙ sym (numbers-next k i)
