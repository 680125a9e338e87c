-- Each call of itself has a shorter out.
use Rattle.std.proofs.Common.{length}
use Rattle.normal.proofs.+merge.Given as goal

abbrev pub decreases-merge : goal.decreases-merge
decreases-merge l = length l.out.now
