-- Binary digits under and, or and shifts, and of packed rows. Two numbers with the same digits are equal.
use Rattle.std.proofs.Common.{◌≡◌, ℕ, zero, suc, ◌+◌, ◌-◌, ◌*◌, ◌/◌, ◌%◌, ◌^◌, ◌<◌, ◌≤◌, Bool, true, false, cond, ◌&&◌, ◌||◌, eqb, ltb, ◌⊎◌, get_or, replicate, sym, refl, ap, ◌∙◌, inl, inr, true≢false, mod-lt, zero-lt-suc, pow-suc, arith, pow_pos, shr-shr, le-ltb, lt-ltb}
use mathlib.Core.Bool.{So, or-false, and-true}
use lib.Arith.{lt-one}
use lib.Bits.{bit_and, bit_or, and_shr, or_shr, and_mod, or_mod, and_mask}
use lib.ListN.{length-replicate, get_or-replicate, get_or-eq_default}
use lib.Pow.{high, low}
use Rattle.soda.specs.Bits.{bit, number, set_bit}
use Rattle.soda.proofs.Bools.{lt_or_le}
use Rattle.soda.proofs.Bits.{bit-suc, bit_of_zero, bit-set_bit, bit-number, some-bit}
use Rattle.rows.specs.Rows.{place, Packed}

-- a digit is 0 or 1
digit_ind : (P : ℕ → Type 0) → P 0 → P 1 → (x : ℕ) → x < 2 → P x
digit_ind P z o zero h = z
digit_ind P z o (suc zero) h = o
digit_ind P z o (suc (suc x)) h = absurd (omega arith)

digit_and : (x y : ℕ) → x < 2 → y < 2 → eqb (bit_and x y) 1 ≡ (eqb x 1 && eqb y 1)
digit_and x y h k =
    digit_ind (λ a. eqb (bit_and a y) 1 ≡ (eqb a 1 && eqb y 1))
    (digit_ind (λ b. eqb (bit_and 0 b) 1 ≡ (eqb 0 1 && eqb b 1)) refl refl y k)
    (digit_ind (λ b. eqb (bit_and 1 b) 1 ≡ (eqb 1 1 && eqb b 1)) refl refl y k) x h

digit_or : (x y : ℕ) → x < 2 → y < 2 → eqb (bit_or x y) 1 ≡ (eqb x 1 || eqb y 1)
digit_or x y h k =
    digit_ind (λ a. eqb (bit_or a y) 1 ≡ (eqb a 1 || eqb y 1))
    (digit_ind (λ b. eqb (bit_or 0 b) 1 ≡ (eqb 0 1 || eqb b 1)) refl refl y k)
    (digit_ind (λ b. eqb (bit_or 1 b) 1 ≡ (eqb 1 1 || eqb b 1)) refl refl y k) x h

below_two : (n : ℕ) → n % 2 < 2
below_two n = mod-lt n (zero-lt-suc 1)

pub bit-and : (i a b : ℕ) → bit i (bit_and a b) ≡ (bit i a && bit i b)
bit-and i a b =
    ap (λ n. eqb (n % 2) 1) (and_shr a b i) ∙ ap (λ n. eqb n 1) (and_mod (a / 2 ^ i) (b / 2 ^ i) 1)
    ∙ digit_and (a / 2 ^ i % 2) (b / 2 ^ i % 2) (below_two (a / 2 ^ i)) (below_two (b / 2 ^ i))

pub bit-or : (i a b : ℕ) → bit i (bit_or a b) ≡ (bit i a || bit i b)
bit-or i a b =
    ap (λ n. eqb (n % 2) 1) (or_shr a b i) ∙ ap (λ n. eqb n 1) (or_mod (a / 2 ^ i) (b / 2 ^ i) 1)
    ∙ digit_or (a / 2 ^ i % 2) (b / 2 ^ i % 2) (below_two (a / 2 ^ i)) (below_two (b / 2 ^ i))

pub bit_shr : (i k x : ℕ) → bit i (x / 2 ^ k) ≡ bit (k + i) x
bit_shr i k x = ap (λ n. eqb (n % 2) 1) (shr-shr x k i)

pub bit_power : (j i : ℕ) → bit j (2 ^ i) ≡ eqb j i
unfolding set_bit
bit_power j i =
    let z : 0 + 2 ^ i ≡ 2 ^ i = omega arith in
    sym (ap (λ b. bit j (cond b 0 (0 + 2 ^ i))) (bit_of_zero i) ∙ ap (bit j) z) ∙ bit-set_bit i j 0 ∙ ap (λ b. eqb j i || b) (bit_of_zero j) ∙ or-false (eqb j i)

ones-number : (k : ℕ) → 2 ^ k - 1 ≡ number (replicate k true)
ones-number zero = refl
ones-number (suc k) = omega (arith, ones-number k, pow-suc 2 k, pow_pos k)

pub bit-ones : (k i : ℕ) → bit i (2 ^ k - 1) ≡ ltb i k
bit-ones k i = ap (bit i) (ones-number k) ∙ bit-number (replicate k true) i ∙ at (lt_or_le i k)
  where
    at : (i < k) ⊎ (k ≤ i) → get_or (replicate k true) i false ≡ ltb i k
    at (inl h) = get_or-replicate k i true false h ∙ sym (lt-ltb i k h)
    at (inr h) = get_or-eq_default (replicate k true) false (let n = length-replicate {A = Bool} k true in omega arith) ∙ sym (le-ltb i k h)

-- what is left below k has the digits below k
pub bit_mask : (k i n : ℕ) → i < k → bit i (bit_and n (2 ^ k - 1)) ≡ bit i n
bit_mask k i n h = bit-and i n (2 ^ k - 1) ∙ ap (λ b. bit i n && b) (bit-ones k i ∙ lt-ltb i k h) ∙ and-true (bit i n)

-- two numbers with the same digits are equal
digit-same : (x y : ℕ) → x < 2 → y < 2 → eqb x 1 ≡ eqb y 1 → x ≡ y
digit-same x y h k =
    digit_ind (λ a. eqb a 1 ≡ eqb y 1 → a ≡ y)
    (digit_ind (λ b. eqb 0 1 ≡ eqb b 1 → 0 ≡ b) (λ e. refl) (λ e. absurd (true≢false (sym e))) y k)
    (digit_ind (λ b. eqb 1 1 ≡ eqb b 1 → 1 ≡ b) (λ e. absurd (true≢false e)) (λ e. refl) y k) x h

pub bit_ext : (k a b : ℕ) → a < 2 ^ k → b < 2 ^ k → ((i : ℕ) → i < k → bit i a ≡ bit i b) → a ≡ b
bit_ext zero a b ha hb h = lt-one ha ∙ sym (lt-one hb)
bit_ext (suc k) a b ha hb h =
    let p = pow-suc 2 k in
    let first = digit-same (a / 1 % 2) (b / 1 % 2) (below_two (a / 1)) (below_two (b / 1)) (h 0 (zero-lt-suc k)) in
    let rest = bit_ext k (a / 2) (b / 2) (omega arith) (omega arith) (λ i l. sym (bit-suc i a) ∙ h (suc i) (omega arith) ∙ bit-suc i b) in
    omega arith

-- a number with no digit is 0
pub no_bits : (n : ℕ) → ((i : ℕ) → So (bit i n) → ⊥) → n ≡ 0
no_bits zero f = refl
no_bits (suc n) f = let (i, e) = some-bit (suc n) (suc n) (omega arith) (omega arith) in absurd (f i e)

-- ── packed rows ──
pub bit_packed : (lo hi : ℕ) → lo < 2 ^ 32 → Packed lo hi (hi * 2 ^ 32 + lo)
bit_packed lo hi h true i l = sym (bit_shr i 32 (hi * 2 ^ 32 + lo)) ∙ ap (bit i) (high hi 32 h)
bit_packed lo hi h false i l =
    let z : 0 + i ≡ i = omega arith in
    ap (λ j. bit j (hi * 2 ^ 32 + lo)) z ∙ sym (bit_mask 32 i (hi * 2 ^ 32 + lo) l)
    ∙ ap (bit i) (and_mask (hi * 2 ^ 32 + lo) 32 ∙ low hi 32 h)

-- a mask that is the same in both columns
pub in_both : (e : Bool) (a r i : ℕ) → i < 32 → Packed a a r → bit (place e i) r ≡ bit i a
in_both true a r i h p = p true i h
in_both false a r i h p = p false i h

-- both digits of word i
pub bit_word : (e : Bool) (j i : ℕ) → j < 32 → i < 32 → bit (place e j) (4294967297 * 2 ^ i) ≡ eqb j i
bit_word e j i k h =
    let n : 4294967297 * 2 ^ i ≡ 2 ^ i * 2 ^ 32 + 2 ^ i = omega arith in
    ap (bit (place e j)) n ∙ bit_packed (2 ^ i) (2 ^ i) (lib.Pow.pow-lt h) e j k ∙ at e
  where
    at : (b : Bool) → bit j (cond b (2 ^ i) (2 ^ i)) ≡ eqb j i
    at true = bit_power j i
    at false = bit_power j i
