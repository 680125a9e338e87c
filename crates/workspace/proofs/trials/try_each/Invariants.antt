-- The invariant: the users from u on are tried, and the sets of the actions before the last still stand in the table (`Trying`).
use Rattle.std.proofs.Common.{get_or}
use Rattle.workspace.proofs.Trying.{Trying}
use Rattle.workspace.proofs.trials.try_each.Given as goal

abbrev pub invariant-loop-u : goal.invariant-loop-u
invariant-loop-u l =
    Trying l.judge.masks l.judge.operators.now l.before (get_or l.taken.actions.now l.j (record { user = 0; met = 0 })) l.taken.met.now l.acted l.initial.sets l.sets l.u l.tried
