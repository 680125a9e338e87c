-- The invariant: the sets of the actions before place j are entered.
use Rattle.std.proofs.Common.{length}
use Rattle.workspace.proofs.Entries.{AddingAll}
use Rattle.workspace.proofs.tables.add_all.Given as goal

abbrev pub invariant-loop-j : goal.invariant-loop-j
invariant-loop-j l = AddingAll l.judge.masks l.judge.operators.now l.taken.actions.now (length l.initial.sets) l.sets l.j
