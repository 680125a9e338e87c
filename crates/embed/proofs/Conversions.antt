-- The number of a conversion, and what is lent for its length and for a place.
use mathlib.Core.Path.{◌≡◌, sym, ap, ◌∙◌}
use mathlib.Core.List.{List}
use Prim.Native.Nat.{ℕ}
use lib.Dec.{eqb}
use borrow.Author.Tests.{eqb-true}
use Rattle.soda.proofs.Bools.{by_test}
use Rattle.policy.specs.Faults.{code_number}
use Rattle.policy.proofs.Places.{code_has_number}
use Rattle.text.specs.Reading.{Converted, converted}
use Rattle.embed.specs.Lent.{place_left, conversion_code, length_left, LengthLent}

conversion_number : (users roles : ℕ) (ws : List ℕ) (n k : ℕ) → code_number (conversion_code (converted users roles ws n k)) ≡ k
conversion_number users roles ws n k = by_test (eqb k 0)
    (λ e. rw e (sym (eqb-true k 0 e)))
    (λ e. rw e (code_has_number users roles ws k))

-- what is said of a conversion's answer, once the answer is known
pub lent : (users roles : ℕ) (ws : List ℕ) (n k : ℕ) (r : Converted) (length place number newLength newPlace : ℕ)
    → r ≡ converted users roles ws n k → LengthLent r length place number newLength newPlace → let c = converted users roles ws n k in
    (number ≡ k) × (newLength ≡ length_left c length) × (newPlace ≡ place_left (conversion_code c) place)
lent users roles ws n k r length place number newLength newPlace e l = (
  l.code ∙ ap (λ (x : Converted). code_number (conversion_code x)) e ∙ conversion_number users roles ws n k,
  l.counted ∙ ap (λ (x : Converted). length_left x length) e,
  l.pointed ∙ ap (λ (x : Converted). place_left (conversion_code x) place) e,
)
