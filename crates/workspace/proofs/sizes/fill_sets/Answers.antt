-- There is a place for every set of four actions, of eight, and of twelve.
use Rattle.std.proofs.Common.{length, arith, pow_mono}
use Rattle.workspace.proofs.sizes.fill_sets.Goals as goal

pub fill_in-requires : goal.fill_in-requires
fill_in-requires c = (pow_mono {i = length c.args.taken.now.actions.now} {j = 4} (omega arith), omega arith, c.requires)

pub fill_in-requires-2 : goal.fill_in-requires-2
fill_in-requires-2 c = (pow_mono {i = length c.args.taken.now.actions.now} {j = 12} c.args.taken.now.few, omega arith, c.requires)
