-- The shifted mask stands above the other, so that or adds them.
use Rattle.std.proofs.Common.{◌^◌, ◌<◌, bit_or, ap, ◌∙◌, arith, shl_exact}
use lib.Bits.{or_shifted_r}
use Rattle.soda.specs.Bits.{bit}
use Rattle.rows.specs.Rows.{place}
use Rattle.rows.proofs.Digits.{bit_packed}
use Rattle.rows.proofs.columns.packed.Goals as goal

pub returns : goal.returns
returns c e i h =
    let a = c.args in
    let lo : a.satisfied < 2 ^ 32 = omega arith in
    let hi : a.possible < 2 ^ 32 = omega arith in
    ap (bit (place e i)) (ap (bit_or a.satisfied) (shl_exact 32 32 64 hi (omega arith)) ∙ or_shifted_r a.possible 32 a.satisfied lo)
    ∙ bit_packed a.satisfied a.possible lo e i h
