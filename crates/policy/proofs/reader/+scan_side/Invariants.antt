-- `side` calls `scan` on the same words, so its measure lies between: twice the length for `scan`, one more for `side`.
use Rattle.std.proofs.Common.{◌+◌, ◌*◌, length}
use Rattle.policy.proofs.reader.+scan_side.Given as goal

abbrev pub decreases-scan : goal.decreases-scan
decreases-scan l = 2 * length l.words.now

abbrev pub decreases-side : goal.decreases-side
decreases-side l = 2 * length l.words.now + 1
