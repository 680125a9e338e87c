-- The digits from 31 on of both, in both columns.
use Rattle.std.proofs.Common.{◌+◌, ◌&&◌, ap, ◌∙◌}
use mathlib.Core.Bool.{and_comm}
use Rattle.soda.specs.Bits.{bit}
use Rattle.rows.specs.Rows.{place}
use Rattle.rows.proofs.Digits.{bit-and, in_both}
use Rattle.rows.proofs.words.chance.Goals as goal

pub returns : goal.returns
returns c e i h =
    let a = c.args in
    let possible = c.unpacked-possible in
    bit-and (place e i) c.packed.result a.joint ∙ and_comm (bit (place e i) c.packed.result) (bit (place e i) a.joint)
    ∙ ap (λ b. bit (place e i) a.joint && b)
    (in_both e possible.result c.packed.result i h c.packed.ensures ∙ possible.ensures i h ∙ bit-and (31 + i) a.one a.two)
