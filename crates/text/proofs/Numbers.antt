-- Numbers up to 15: what is read is a numeral, and a numeral is read where no digit follows.
use mathlib.Core.Path.{◌≡◌, refl, sym, ap, ◌∙◌}
use mathlib.Core.Bool.{Bool, true, So, not, ◌&&◌, true≢false}
use mathlib.Core.List.{List, [], ◌∷◌, ◌++◌}
use mathlib.Core.Option.{some}
use Prim.Native.Nat.{ℕ, ◌+◌, ◌-◌, ◌<◌, ◌≤◌}
use native.Mathlib.Omega.{arith}
use borrow.Author.Tests.{eqb-true, eqb-false, ne_eqb, leb-true, le-leb, lt-ltb, le-ltb, ltb-true, ltb-false, not-true}
use lib.Dec.{leb, ltb, eqb}
use Rattle.soda.proofs.Bools.{by_test, and_split, and-join}
use Rattle.text.specs.Texts.{numeral}
use Rattle.text.specs.Grammar.{second, numeral_in}
use Rattle.text.proofs.Beginnings.{Finds, finds_none, finds_one}

-- the bytes of 0 to 9
abbrev pub is_digit : ℕ → Bool
is_digit b = leb 48 b && leb b 57

abbrev pub no_digit : List ℕ → Bool
no_digit [] = true
no_digit (b ∷ t) = not (is_digit b)

-- ── numerals ──
pub one-digit : (n : ℕ) → n < 10 → numeral n ≡ (48 + n) ∷ []
one-digit n h = rw (lt-ltb n 10 h)

pub two_digits : (n : ℕ) → 10 ≤ n → numeral n ≡ 49 ∷ (48 + (n - 10)) ∷ []
two_digits n h = rw (le-ltb n 10 h)

-- ── what is read ──
abbrev pub Begins : List ℕ → ℕ × List ℕ → Type 0
Begins t n = (t ≡ numeral n.0 ++ n.1) × (n.0 < 16)

begins_one : (a : ℕ) (rest : List ℕ) → 48 ≤ a → a ≤ 57 → Begins (a ∷ rest) (a - 48, rest)
begins_one a rest h k =
    let e : a ≡ 48 + (a - 48) = omega arith in
    (rw (one-digit (a - 48) (omega arith)) (ap (λ (c : ℕ). c ∷ rest) e), omega arith)

begins_two : (b : ℕ) (rest : List ℕ) → 48 ≤ b → b ≤ 53 → Begins (49 ∷ b ∷ rest) (10 + (b - 48), rest)
begins_two b rest h k =
    let e : b ≡ 48 + (10 + (b - 48) - 10) = omega arith in
    (rw (two_digits (10 + (b - 48)) (omega arith)) (ap (λ (c : ℕ). 49 ∷ c ∷ rest) e), omega arith)

second_finds : (t : List ℕ) → Finds (second t) (Begins (49 ∷ t))
second_finds [] = finds_one (begins_one 49 [] (omega arith) (omega arith))
second_finds (b ∷ t) = by_test (leb 48 b && leb b 53)
    (λ q. let (l, m) = and_split (leb 48 b) (leb b 53) q in rw q (finds_one (begins_two b t (leb-true 48 b l) (leb-true b 53 m))))
    λ q. rw q (finds_one (begins_one 49 (b ∷ t) (omega arith) (omega arith)))

pub numeral_finds : (t : List ℕ) → Finds (numeral_in t) (Begins t)
numeral_finds [] = finds_none
numeral_finds (a ∷ t) = by_test (eqb a 49)
    (λ q. rw (eqb-true a 49 q) (second_finds t))
    λ q. by_test (is_digit a)
    (λ d. let (l, m) = and_split (leb 48 a) (leb a 57) d in rw (q, d) (finds_one (begins_one a t (leb-true 48 a l) (leb-true a 57 m))))
    λ d. rw (q, d) finds_none

pub numeral-some : (t rest : List ℕ) (n : ℕ) → numeral_in t ≡ some (n, rest) → (t ≡ numeral n ++ rest) × (n < 16)
numeral-some t rest n = (numeral_finds t).has (n, rest)

-- ── what is there is read ──
second_none : (rest : List ℕ) → So (no_digit rest) → second rest ≡ some (1, rest)
second_none [] h = refl
second_none (b ∷ t) h = by_test (leb 48 b && leb b 53)
    (λ q. let (l, m) = and_split (leb 48 b) (leb b 53) q in
    let z = leb-true b 53 m in
    let d : is_digit b ≡ true = and-join (leb 48 b) (leb b 57) l (le-leb b 57 (omega arith)) in
    absurd (true≢false (sym d ∙ not-true (is_digit b) h)))
    λ q. rw q

pub numeral_read : (n : ℕ) (rest : List ℕ) → n < 16 → So (no_digit rest) → numeral_in (numeral n ++ rest) ≡ some (n, rest)
numeral_read n rest h k = by_test (ltb n 10)
    (λ q. let l = ltb-true n 10 q in ap (λ (t : List ℕ). numeral_in (t ++ rest)) (one-digit n l)
    ∙ by_test (eqb n 1)
    (λ p. rw (eqb-true n 1 p, second_none rest k))
    λ p. let ne = eqb-false n 1 p in
    let m : 48 + n - 48 ≡ n = omega arith in
    rw (ne_eqb (48 + n) 49 (λ z. ne (omega arith)), le-leb 48 (48 + n) (omega arith), le-leb (48 + n) 57 (omega arith), m))
    λ q. let l = ltb-false n 10 q in
    let m : 10 + (48 + (n - 10) - 48) ≡ n = omega arith in
    ap (λ (t : List ℕ). numeral_in (t ++ rest)) (two_digits n l)
    ∙ rw (le-leb 48 (48 + (n - 10)) (omega arith), le-leb (48 + (n - 10)) 53 (omega arith), m)
