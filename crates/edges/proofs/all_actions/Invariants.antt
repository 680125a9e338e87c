-- The bytes keep their number.
use Rattle.std.proofs.Common.{◌≡◌, length}
use Rattle.edges.proofs.all_actions.Given as goal

abbrev pub invariant-loop-action : goal.invariant-loop-action
invariant-loop-action l = length l.bytes ≡ 199
