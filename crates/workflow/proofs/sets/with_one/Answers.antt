-- A bit that is set already stays, another one is added.
use Rattle.std.proofs.Common.{ℕ, ◌≡◌, ◌/◌, ◌%◌, ◌^◌, ap, ◌∙◌, arith}
use borrow.Author.Tests.{eqb-false}
use lib.Bits.{bit_or, or_add_and}
use Rattle.std.proofs.lemmas.Nat.Bits.{and_pow, bit_at-lt}
use Rattle.soda.specs.Bits.{bit, set_bit}
use Rattle.soda.proofs.Bits.{one_shl}
use Rattle.soda.proofs.Bools.{by_test, so_eq}
use Rattle.workflow.proofs.sets.with_one.Goals as goal

with_bit : (n i : ℕ) → bit_or n (2 ^ i) ≡ set_bit i n
unfolding set_bit
with_bit n i = by_test (bit i n)
    (λ e. let d = so_eq _ 1 e in rw e (omega (arith, or_add_and n (2 ^ i), rw d at (and_pow n i))))
    λ e. let d : n / 2 ^ i % 2 ≡ 0 = omega (arith, eqb-false _ 1 e, bit_at-lt n i) in rw e (omega (arith, or_add_and n (2 ^ i), rw d at (and_pow n i)))

pub returns : goal.returns
returns c = ap (bit_or c.args.set) (one_shl 64 c.args.i c.requires) ∙ with_bit c.args.set c.args.i
