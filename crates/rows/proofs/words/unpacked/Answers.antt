-- The mask of 32 ones leaves the digits below 32 of the shifted row.
use Rattle.std.proofs.Common.{◌/◌, ◌^◌, ◌∙◌}
use Rattle.rows.proofs.Digits.{bit_mask, bit_shr}
use Rattle.rows.proofs.words.unpacked.Goals as goal

pub returns : goal.returns
returns c i h = let a = c.args in bit_mask 32 i (a.row / 2 ^ a.k) h ∙ bit_shr i a.k a.row
