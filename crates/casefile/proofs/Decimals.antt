-- Numbers in decimal: their digits by size, and how long the texts are that hold them.
use mathlib.Core.Path.{◌≡◌}
use mathlib.Core.Bool.{Bool, true, false, cond}
use mathlib.Core.List.{[], ◌∷◌, ◌++◌}
use Prim.Native.Nat.{ℕ, ◌/◌, ◌≤◌, ◌<◌}
use native.Mathlib.Omega.{arith}
use borrow.Author.Tests.{lt-ltb, le-ltb}
use lib.Dec.{ltb}
use lib.ListN.{length, length-append}
use Rattle.policy.specs.Codes.{Code, Fault, Plain}
use Rattle.casefile.specs.Texts.{digit, decimal, refused_number, refused_text, taken_text, line_text}

pub one-digit : (n : ℕ) → n < 10 → decimal n ≡ digit n ∷ []
one-digit n h = rw (lt-ltb n 10 h)

pub two_digits : (n : ℕ) → 10 ≤ n → n < 100 → decimal n ≡ digit (n / 10) ∷ digit n ∷ []
two_digits n h k = rw (le-ltb n 10 h, lt-ltb n 100 k)

pub three_digits : (n : ℕ) → 100 ≤ n → decimal n ≡ digit (n / 100) ∷ digit (n / 10) ∷ digit n ∷ []
three_digits n h = rw (le-ltb n 10 (omega arith), le-ltb n 100 h)

-- ── lengths ──
at_most_three : (n : ℕ) → length (decimal n) ≤ 3
at_most_three n = go (ltb n 10) (ltb n 100)
  where
    go : (a b : Bool) → length (cond a (digit n ∷ []) (cond b (digit (n / 10) ∷ digit n ∷ []) (digit (n / 100) ∷ digit (n / 10) ∷ digit n ∷ []))) ≤ 3
    go true b = omega arith
    go false true = omega arith
    go false false = omega arith

at_most_two : (n : ℕ) → n < 100 → length (decimal n) ≤ 2
at_most_two n h = rw (lt-ltb n 100 h) (go (ltb n 10))
  where
    go : (a : Bool) → length (cond a (digit n ∷ []) (digit (n / 10) ∷ digit n ∷ [])) ≤ 2
    go true = omega arith
    go false = omega arith

-- a line of a number below 100, `taken n` for an n below 100, and any refusal
pub line-length : (place k status : ℕ) → k < 100 → length (line_text place k status) ≤ 9
line-length place k status h =
    omega (arith, length-append (decimal place) (32 ∷ (decimal k ++ (32 ∷ status ∷ 10 ∷ []))), length-append (decimal k) (32 ∷ status ∷ 10 ∷ []), at_most_three place, at_most_two k h)

pub taken-length : (n : ℕ) → n < 100 → length (taken_text n) ≤ 9
taken-length n h = omega (arith, length-append (decimal n) (10 ∷ []), at_most_two n h)

pub refused_length : (c : Code) → length (refused_text c) ≤ 19
refused_length (Fault k p) =
    omega (arith, length-append (refused_number k) (32 ∷ 97 ∷ 116 ∷ 32 ∷ (decimal p ++ (10 ∷ []))), length-append (decimal p) (10 ∷ []), at_most_three k, at_most_three p)
refused_length (Plain k) = omega (arith, length-append (refused_number k) (10 ∷ []), at_most_three k)
