-- The invariant: the operators among the words before are listed.
use Rattle.workspace.proofs.Complete.{Listed}
use Rattle.workspace.proofs.row.operators.Given as goal

abbrev pub invariant-loop-at : goal.invariant-loop-at
invariant-loop-at l = Listed l.either' l.both l.places l.initial.ops l.ops l.n l.at
