-- Each answer digit by digit, by the test on the number of actions.
use Rattle.std.proofs.Common.{eq-eqb, ne_eqb}
use Rattle.rows.proofs.Digits.{bit-and, bit-or, bit_shr}
use Rattle.rows.proofs.words.base_of.Goals as goal

pub returns-then-ones-eq1 : goal.returns-then-ones-eq1
returns-then-ones-eq1 c q = simp (bit-or, bit-and, bit_shr q 1, eq-eqb _ _ c.if-ones-eq1.true)

pub returns-else-ones-eq1 : goal.returns-else-ones-eq1
returns-else-ones-eq1 c q = simp (bit-and, bit_shr q 1, ne_eqb _ _ c.if-ones-eq1.false)
