-- `|` with a shifted one sets the bit.
use Rattle.std.proofs.Common.{bit_or, ap, ◌∙◌}
use Rattle.soda.proofs.Bits.{one_shl}
use Rattle.configuration.proofs.Digits.{or_is-set}
use Rattle.configuration.proofs.lists.with_bit.Goals as goal

pub returns : goal.returns
returns c = ap (bit_or c.args.set) (one_shl 16 c.args.i c.requires) ∙ or_is-set c.args.set c.args.i
