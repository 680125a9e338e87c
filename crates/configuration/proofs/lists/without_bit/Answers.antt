-- What is masked by all other bits is what is left without that one.
use Rattle.std.proofs.Common.{◌≡◌, ◌-◌, ◌^◌, ◌<◌, bit_and, ◌∙◌, arith}
use Rattle.std.proofs.lemmas.Nat.{and-not, and_comm, pow_below}
use Rattle.soda.proofs.Bits.{one_shl}
use Rattle.configuration.proofs.Digits.{sub_is_clear}
use Rattle.configuration.proofs.lists.without_bit.Goals as goal

pub returns : goal.returns
returns c =
    let a = c.args in
    let low : 2 ^ a.i < 65536 = pow_below a.i 16 c.requires in
    let parts = and-not 16 (2 ^ a.i) a.set low c.ranges.set.fits in
    let left : bit_and a.set (65535 - 2 ^ a.i) ≡ a.set - bit_and a.set (2 ^ a.i) =
    omega (arith, parts, and_comm (2 ^ 16 - 1 - 2 ^ a.i) a.set, and_comm (2 ^ a.i) a.set) in
    rw (one_shl 16 a.i c.requires) (left ∙ sub_is_clear a.set a.i)
