-- The invariant: the rows of the sets below x are written.
use Rattle.std.proofs.Common.{◌≡◌, length}
use Rattle.workspace.specs.Private.{Written}
use Rattle.workspace.proofs.tables.write_rows.Given as goal

abbrev pub invariant-loop-x : goal.invariant-loop-x
invariant-loop-x l = (length l.workspace ≡ length l.initial.workspace) × Written l.x l.sets l.initial.workspace l.workspace
