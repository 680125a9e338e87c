-- Each call of itself has fewer words.
use Rattle.std.proofs.Common.{length}
use Rattle.normal.proofs.+normal_term.Given as goal

abbrev pub decreases-normal_term : goal.decreases-normal_term
decreases-normal_term l = length l.words.now
