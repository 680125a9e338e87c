-- The loop keeps that what it has left says whether all are unused, and leaves fewer each time.
use Rattle.std.specs.Prelude.{◌≡◌, length}
use Rattle.soda.specs.Lists.{all}
use Rattle.workflow.specs.Workflows.{is_idle}
use Rattle.workflow.proofs.transitions.idle_transitions.Given as goal

abbrev pub decreases-loop-sixteen : goal.decreases-loop-sixteen
decreases-loop-sixteen l = length l.rest

abbrev pub invariant-loop-sixteen : goal.invariant-loop-sixteen
invariant-loop-sixteen l = all is_idle l.transitions ≡ all is_idle l.rest
