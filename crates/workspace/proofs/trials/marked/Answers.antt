-- One digit more.
use Rattle.std.proofs.Common.{◌*◌, ◌%◌, ◌^◌, ◌&&◌, ◌||◌, sym, ap, ◌∙◌}
use Rattle.std.proofs.Math.Bool.{and-true}
use lib.Dec.{eqb}
use Rattle.soda.specs.Bits.{bit}
use Rattle.soda.proofs.Bits.{one_shl}
use Rattle.rows.proofs.Digits.{bit-or, bit_power}
use Rattle.workspace.proofs.trials.marked.Goals as goal

pub returns-then-possible : goal.returns-then-possible
returns-then-possible c v =
    let a = c.args in
    bit-or v a.users (1 * 2 ^ a.u % 65536) ∙ ap (λ b. bit v a.users || b)
    (ap (bit v) (one_shl 16 a.u c.requires) ∙ bit_power v a.u ∙ sym (ap (λ b. eqb v a.u && b) c.if-possible.true ∙ and-true (eqb v a.u)))
