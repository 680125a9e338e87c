-- Masks over the elements of a list: one more put below, one behind another.
use Rattle.std.proofs.Common.{◌≡◌, ℕ, suc, ◌+◌, ◌*◌, ◌%◌, ◌^◌, ◌≤◌, Bool, cond, List, [], ◌∷◌, ◌++◌, length, sym, ap, ◌∙◌, add-zero, mul-one, mul_left_comm, arith, shl_exact}
use native.Mathlib.Nat.{pow-succ'}
use lib.Bits.{bit_or, or_shifted}
use Rattle.soda.specs.Bits.{number}
use Rattle.soda.proofs.Bits.{digit_lt, number_lt}
use Rattle.policy.specs.Masks.{put_of}

pub put_is : (b : Bool) (l : List Bool) → length l ≤ 31 → put_of (number l) b ≡ number (b ∷ l)
put_is b l h =
    let e : length l + 1 ≤ 32 = omega arith in
    ap (λ (n : ℕ). bit_or n (cond b 1 0)) (shl_exact (length l) 1 32 (number_lt l) e)
    ∙ or_shifted (number l) 1 (cond b 1 0) (digit_lt b)
    ∙ (let z : number l * 2 + cond b 1 0 ≡ cond b 1 0 + 2 * number l = omega arith in z)

-- one mask behind another
pub number_append : (l m : List Bool) → number (l ++ m) ≡ number m * 2 ^ length l + number l
number_append [] m = sym (mul-one (number m)) ∙ sym (add-zero (number m * 1))
number_append (b ∷ l) m =
    let e : number m * 2 ^ suc (length l) ≡ 2 * (number m * 2 ^ length l) = ap (λ (x : ℕ). number m * x) (pow-succ' 2 (length l)) ∙ mul_left_comm (number m) 2 (2 ^ length l) in
    omega (arith, number_append l m)

pub joined : (l m : List Bool) → length l + length m ≤ 32 → bit_or (number m * 2 ^ length l % 2 ^ 32) (number l) ≡ number (l ++ m)
joined l m h =
    let e : length m + length l ≤ 32 = omega arith in
    ap (λ (n : ℕ). bit_or n (number l)) (shl_exact (length m) (length l) 32 (number_lt m) e)
    ∙ or_shifted (number m) (length l) (number l) (number_lt l)
    ∙ sym (number_append l m)
