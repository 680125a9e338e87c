-- The invariant: the words from i on are done.
use Rattle.std.proofs.Common.{◌≤◌, length}
use Rattle.shape.proofs.Ends.{Done}
use Rattle.shape.proofs.rights.Given as goal

abbrev pub invariant-loop-i : goal.invariant-loop-i
invariant-loop-i l = (l.i ≤ length l.words) × Done l.words l.right l.end l.i
