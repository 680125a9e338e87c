-- The invariant: the places before k are found.
use Rattle.workspace.proofs.Exchange.{Finding}
use Rattle.workspace.proofs.twins.alike_of.Given as goal

abbrev pub invariant-loop-k : goal.invariant-loop-k
invariant-loop-k l = Finding l.before l.action l.k l.alike
