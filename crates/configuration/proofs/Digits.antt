-- One digit of a number set and cleared by `|`, `-` and `&` on machine words.
use mathlib.Core.Path.{◌≡◌, refl, sym, ap, ◌∙◌}
use mathlib.Core.Bool.{Bool, true, false, cond}
use Prim.Native.Nat.{ℕ, ◌+◌, ◌*◌, ◌-◌, ◌/◌, ◌%◌, ◌^◌, ◌<◌}
use native.Mathlib.Nat.{mod-lt, one-mul, zero-mul}
use native.Mathlib.Omega.{arith}
use lib.Bits.{bit_and, bit_or, and_high, or_add_and}
use lib.Pow.{high_ones}
use borrow.Author.Tests.{eqb-true, eqb-false}
use Rattle.soda.specs.Bits.{bit, set_bit, clear_bit}

-- `n & 2 ^ i` is digit i in its place
and_lone : (n i : ℕ) → bit_and n (2 ^ i) ≡ (n / 2 ^ i % 2) * 2 ^ i
and_lone n i = ap (bit_and n) (sym (high_ones 1 i ∙ one-mul (2 ^ i))) ∙ and_high n 1 i

and-bit : (n i : ℕ) (b : Bool) → bit i n ≡ b → bit_and n (2 ^ i) ≡ cond b (2 ^ i) 0
and-bit n i true e = and_lone n i ∙ ap (λ (d : ℕ). d * 2 ^ i) (eqb-true (n / 2 ^ i % 2) 1 e) ∙ one-mul (2 ^ i)
and-bit n i false e =
    let two : 0 < 2 = omega arith in
    let d : n / 2 ^ i % 2 ≡ 0 = omega (arith, mod-lt (n / 2 ^ i) two, eqb-false (n / 2 ^ i % 2) 1 e) in
    and_lone n i ∙ ap (λ (d : ℕ). d * 2 ^ i) d ∙ zero-mul (2 ^ i)

pub or_is-set : (n i : ℕ) → bit_or n (2 ^ i) ≡ set_bit i n
unfolding set_bit
or_is-set n i = go (bit i n) (and-bit n i (bit i n) refl)
  where
    go : (b : Bool) → bit_and n (2 ^ i) ≡ cond b (2 ^ i) 0 → bit_or n (2 ^ i) ≡ cond b n (n + 2 ^ i)
    go true e = omega (arith, or_add_and n (2 ^ i), e)
    go false e = omega (arith, or_add_and n (2 ^ i), e)

pub sub_is_clear : (n i : ℕ) → n - bit_and n (2 ^ i) ≡ clear_bit i n
unfolding clear_bit
sub_is_clear n i = go (bit i n) (and-bit n i (bit i n) refl)
  where
    go : (b : Bool) → bit_and n (2 ^ i) ≡ cond b (2 ^ i) 0 → n - bit_and n (2 ^ i) ≡ cond b (n - 2 ^ i) n
    go true e = omega (arith, e)
    go false e = omega (arith, e)
