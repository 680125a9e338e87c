-- The loop keeps that the transitions before the next one are as they must be, and of each state the set of their actions.
use Rattle.workflow.proofs.Seen.{Kept}
use Rattle.workflow.proofs.transitions.transitions_ok.Given as goal

abbrev pub invariant-loop-transition : goal.invariant-loop-transition
invariant-loop-transition l = Kept l.states l.transitions l.seen l.transition-index
