-- Laws of binary digits: read, set, cleared, and put together.
use mathlib.Core.Path.{◌≡◌, refl, sym, ap, ap₂, ◌∙◌}
use mathlib.Core.Bool.{Bool, true, false, So, not, ◌&&◌, ◌||◌, cond, true≢false}
use mathlib.Core.List.{[], ◌∷◌}
use Prim.Native.Nat.{ℕ, zero, suc, ◌+◌, ◌-◌, ◌*◌, ◌/◌, ◌%◌, ◌^◌, ◌≤◌, ◌<◌}
use native.Mathlib.Omega.{arith}
use native.Mathlib.Nat.{one-mul, pow-suc, zero-div}
use lib.Bits.{bit_and, and_mask}
use lib.Dec.{eqb, eqb-zero-suc, eqb-suc-zero, eqb-suc-suc}
use lib.ListN.{length}
use lib.Pow.{shl_exact, shr-shr}
use Rattle.soda.specs.Bits.{bit, set_bit, clear_bit, number}
use Rattle.soda.specs.Laws.{BitSetBit, BitClearBit, BitNumber, NumberLt}
use Rattle.soda.proofs.Bools.{so_eq}

pub bit-suc : (i n : ℕ) → bit (suc i) n ≡ bit i (n / 2)
bit-suc i n = let k : 1 + i ≡ suc i = omega arith in ap (λ x. eqb (x % 2) 1) (ap (λ j. n / 2 ^ j) (sym k) ∙ sym (shr-shr n 1 i))

pub bit_of_zero : (i : ℕ) → bit i 0 ≡ false
bit_of_zero i = ap (λ x. eqb (x % 2) 1) (zero-div (2 ^ i))

digit-false : (m : ℕ) → m < 2 → eqb m 1 ≡ false → m ≡ 0
digit-false zero l e = refl
digit-false (suc zero) l e = absurd (true≢false e)
digit-false (suc (suc m)) l e = omega arith

pub even : (n : ℕ) → bit 0 n ≡ false → n % 2 ≡ 0
even n e = let k = digit-false (n / 1 % 2) (omega arith) e in omega arith

pub odd : (n : ℕ) → bit 0 n ≡ true → n % 2 ≡ 1
odd n e = let k = so_eq (n / 1 % 2) 1 e in omega arith

-- as code tests it
pub low_bit : (n : ℕ) → eqb (bit_and n 1) 1 ≡ bit 0 n
low_bit n = let e : n % 2 ≡ n / 1 % 2 = omega arith in ap (λ (k : ℕ). eqb k 1) (and_mask n 1 ∙ e)

bit_0 : (m n : ℕ) → m % 2 ≡ n % 2 → bit 0 m ≡ bit 0 n
bit_0 m n e = let k : m / 1 % 2 ≡ n / 1 % 2 = omega arith in ap (λ x. eqb x 1) k

pub bit_le : (i n : ℕ) → So (bit i n) → 2 ^ i ≤ n
bit_le zero n e = let k = odd n e in omega arith
bit_le (suc i) n e = let k = bit_le i (n / 2) (sym (bit-suc i n) ∙ e) in omega (arith, pow-suc 2 i)

add_bit : (i j n : ℕ) → bit i n ≡ false → bit j (n + 2 ^ i) ≡ (eqb j i || bit j n)
add_bit zero zero n e = let k = even n e in let m : (n + 1) / 1 % 2 ≡ 1 = omega arith in ap (λ y. eqb y 1) m
add_bit zero (suc j) n e =
    let k = even n e in
    let m : (n + 1) / 2 ≡ n / 2 = omega arith in
    bit-suc j (n + 1) ∙ ap (bit j) m ∙ sym (bit-suc j n) ∙ sym (ap (λ b. b || bit (suc j) n) (eqb-suc-zero j))
add_bit (suc i) zero n e =
    let m : (n + 2 ^ suc i) % 2 ≡ n % 2 = omega (arith, pow-suc 2 i) in
    bit_0 (n + 2 ^ suc i) n m ∙ sym (ap (λ b. b || bit 0 n) (eqb-zero-suc i))
add_bit (suc i) (suc j) n e =
    let m : (n + 2 ^ suc i) / 2 ≡ n / 2 + 2 ^ i = omega (arith, pow-suc 2 i) in
    bit-suc j (n + 2 ^ suc i) ∙ ap (bit j) m ∙ add_bit i j (n / 2) (sym (bit-suc i n) ∙ e) ∙ ap₂ ◌||◌ (sym (eqb-suc-suc j i)) (sym (bit-suc j n))

sub_bit : (i j n : ℕ) → bit i n ≡ true → bit j (n - 2 ^ i) ≡ (not (eqb j i) && bit j n)
sub_bit zero zero n e = let k = odd n e in let m : (n - 1) / 1 % 2 ≡ 0 = omega arith in ap (λ y. eqb y 1) m
sub_bit zero (suc j) n e =
    let k = odd n e in
    let m : (n - 1) / 2 ≡ n / 2 = omega arith in
    bit-suc j (n - 1) ∙ ap (bit j) m ∙ sym (bit-suc j n) ∙ sym (ap (λ b. not b && bit (suc j) n) (eqb-suc-zero j))
sub_bit (suc i) zero n e =
    let k = bit_le (suc i) n e in
    let m : (n - 2 ^ suc i) % 2 ≡ n % 2 = omega (arith, pow-suc 2 i) in
    bit_0 (n - 2 ^ suc i) n m ∙ sym (ap (λ b. not b && bit 0 n) (eqb-zero-suc i))
sub_bit (suc i) (suc j) n e =
    let k = bit_le (suc i) n e in
    let m : (n - 2 ^ suc i) / 2 ≡ n / 2 - 2 ^ i = omega (arith, pow-suc 2 i) in
    bit-suc j (n - 2 ^ suc i) ∙ ap (bit j) m ∙ sub_bit i j (n / 2) (sym (bit-suc i n) ∙ e) ∙ ap₂ (λ a b. not a && b) (sym (eqb-suc-suc j i)) (sym (bit-suc j n))

-- a digit set, or cleared: that digit alone changes
pub bit-set_bit : BitSetBit
unfolding set_bit
bit-set_bit i j n = go (bit i n) refl
  where
    at : (b : Bool) → eqb j i ≡ b → bit i n ≡ true → bit j n ≡ (b || bit j n)
    at true q e = ap (λ y. bit y n) (so_eq j i q) ∙ e
    at false q e = refl

    go : (b : Bool) → bit i n ≡ b → bit j (cond b n (n + 2 ^ i)) ≡ (eqb j i || bit j n)
    go true e = at (eqb j i) refl e
    go false e = add_bit i j n e

pub bit-clear_bit : BitClearBit
unfolding clear_bit
bit-clear_bit i j n = go (bit i n) refl
  where
    at : (b : Bool) → eqb j i ≡ b → bit i n ≡ false → bit j n ≡ (not b && bit j n)
    at true q e = ap (λ y. bit y n) (so_eq j i q) ∙ e
    at false q e = refl

    go : (b : Bool) → bit i n ≡ b → bit j (cond b (n - 2 ^ i) n) ≡ (not (eqb j i) && bit j n)
    go true e = sub_bit i j n e
    go false e = at (eqb j i) refl e

-- a number that is not zero has a digit; `bound` only counts down
pub some-bit : (bound n : ℕ) → n ≤ bound → 1 ≤ n → (i : ℕ) × So (bit i n)
some-bit zero n l k = absurd (omega arith)
some-bit (suc b) n l k = go (bit 0 n) refl (some-bit b (n / 2))
  where
    go : (c : Bool) → bit 0 n ≡ c → (n / 2 ≤ b → 1 ≤ n / 2 → (i : ℕ) × So (bit i (n / 2))) → (i : ℕ) × So (bit i n)
    go true e f = (0, e)
    go false e f = let m = even n e in let (i, x) = f (omega arith) (omega arith) in (suc i, bit-suc i n ∙ x)

-- one digit shifted into a word of w digits
pub one_shl : (w k : ℕ) → k < w → 1 * 2 ^ k % 2 ^ w ≡ 2 ^ k
one_shl w k h = shl_exact {a = 1} 1 k w (omega arith) (omega arith) ∙ one-mul (2 ^ k)

-- the digits of a number are the list's
bit-zero : (b : Bool) (n : ℕ) → bit 0 (cond b 1 0 + 2 * n) ≡ b
bit-zero true n = let k : (1 + 2 * n) / 1 % 2 ≡ 1 = omega arith in ap (λ x. eqb x 1) k
bit-zero false n = let k : (0 + 2 * n) / 1 % 2 ≡ 0 = omega arith in ap (λ x. eqb x 1) k

pub half-digit : (b : Bool) (n : ℕ) → (cond b 1 0 + 2 * n) / 2 ≡ n
half-digit true n = omega arith
half-digit false n = omega arith

pub digit_lt : (b : Bool) → cond b 1 0 < 2
digit_lt true = omega arith
digit_lt false = omega arith

pub number_lt : NumberLt
number_lt [] = omega arith
number_lt (b ∷ l) = omega (arith, digit_lt b, number_lt l, pow-suc 2 (length l))

pub bit-number : BitNumber
bit-number [] i = bit_of_zero i
bit-number (b ∷ l) zero = bit-zero b (number l)
bit-number (b ∷ l) (suc i) = bit-suc i (number (b ∷ l)) ∙ ap (bit i) (half-digit b (number l)) ∙ bit-number l i
