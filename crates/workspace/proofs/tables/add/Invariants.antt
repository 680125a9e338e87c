-- The invariant: the sets of the actions before, and those below t with the action, are entered.
use Rattle.workspace.proofs.Entries.{Adding}
use Rattle.workspace.proofs.tables.add.Given as goal

abbrev pub invariant-loop-t : goal.invariant-loop-t
invariant-loop-t l = Adding l.judge.masks l.judge.operators.now l.before l.action l.alike l.initial.sets l.sets l.user l.top l.t
