-- A place past 31 holds no bit.
use Rattle.std.proofs.Common.{◌^◌, lt_of_lt_of_le, le-ltb}
use native.Mathlib.Nat.{div-eq_of_lt}
use lib.Pow.{pow_mono}
use Rattle.units.proofs.terms.has_bit.Goals as goal

pub returns-else-i-lt32 : goal.returns-else-i-lt32
returns-else-i-lt32 c =
    let a = c.args in
    rw (le-ltb a.i 32 c.if-i-lt32.false, div-eq_of_lt {n = a.set} {m = 2 ^ a.i} (lt_of_lt_of_le c.ranges.set.fits (pow_mono c.if-i-lt32.false)))
