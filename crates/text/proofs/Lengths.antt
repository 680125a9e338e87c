-- The length of texts: at most 24 bytes a word and 15 more, so at most 767 for a policy; one policy has so many.
use mathlib.Core.Path.{refl}
use mathlib.Core.Bool.{Bool, true, false, cond}
use mathlib.Core.List.{List, [], ◌∷◌, ◌++◌}
use Prim.Native.Nat.{ℕ, zero, suc, ◌+◌, ◌-◌, ◌*◌, ◌≤◌}
use Prim.Native.Char.{code}
use native.Mathlib.Omega.{arith}
use lib.Dec.{ltb}
use lib.ListN.{length, length-append}
use Rattle.soda.specs.Bits.{bit}
use Rattle.soda.specs.Terms.{Op, either, both, together, apart, Term, everyone, role, set, ¬ᵗ◌, ◌⁺, bin, size}
use Rattle.text.specs.Texts.{ascii, digit, numeral, members, listed, set_text, op_text, text}
use Rattle.text.specs.Laws.{TextFits, LongestIsReached}

numeral-short : (n : ℕ) → length (numeral n) ≤ 2
numeral-short n = go (ltb n 10)
  where
    go : (b : Bool) → length (cond b (digit n ∷ []) (digit 1 ∷ digit (n - 10) ∷ [])) ≤ 2
    go true = omega arith
    go false = omega arith

op_short : (op : Op) → length (op_text op) ≤ 7
op_short either = omega arith
op_short both = omega arith
op_short together = omega arith
op_short apart = omega arith

-- the k users from u on, each with its sign
abbrev all_listed : ℕ → ℕ → ℕ
all_listed zero u = 0
all_listed (suc k) u = 1 + (length (numeral u) + all_listed k (suc u))

listed-short : (k u m sign : ℕ) → length (listed sign (members k u m)) ≤ all_listed k u
listed-short zero u m sign = omega arith
listed-short (suc k) u m sign = go (listed-short k (suc u) m (code ",")) (listed-short k (suc u) m sign) (bit u m)
  where
    go : length (listed (code ",") (members k (suc u) m)) ≤ all_listed k (suc u) → length (listed sign (members k (suc u) m)) ≤ all_listed k (suc u)
        → (b : Bool) → length (listed sign (cond b (u ∷ members k (suc u) m) (members k (suc u) m))) ≤ 1 + (length (numeral u) + all_listed k (suc u))
    go h l true = omega (arith, length-append (numeral u) (listed (code ",") (members k (suc u) m)))
    go h l false = omega arith

closed_short : (l : List ℕ) (n : ℕ) → length l ≤ n → length (l ++ ascii "}") ≤ n + 1
closed_short l n h = omega (arith, length-append l (ascii "}"))

set-short : (m : ℕ) → length (set_text m) ≤ 39
set-short m = closed_short (listed (code "{") (members 16 0 m)) 38 (listed-short 16 0 m (code "{"))

-- two sides in brackets
pair-short : (a o b : List ℕ) (x y : ℕ) → length a ≤ 24 * x + 15 → length o ≤ 7 → length b ≤ 24 * y + 15
    → length (ascii "(" ++ (a ++ (o ++ (b ++ ascii ")")))) ≤ 24 * (1 + (x + y)) + 15
pair-short a o b x y h i j = omega (arith, length-append a (o ++ (b ++ ascii ")")), length-append o (b ++ ascii ")"), length-append b (ascii ")"))

text-short : (φ : Term) → length (text φ) ≤ 24 * size φ + 15
text-short everyone = omega arith
text-short (role r) = let h = numeral-short r in omega arith
text-short (set m) = set-short m
text-short (¬ᵗ φ) = let h = text-short φ in omega arith
text-short (φ ⁺) = let h = text-short φ in omega arith
text-short (bin op φ ψ) = pair-short (text φ) (op_text op) (text ψ) (size φ) (size ψ) (text-short φ) (op_short op) (text-short ψ)

pub text-fits : TextFits
text-fits users roles ws φ p = omega (arith, text-short φ, p.short)

pub longest-is-reached : LongestIsReached
longest-is-reached = (record { counts = refl; written = refl; formed = refl; is_declared = refl; short = omega arith }, refl)
