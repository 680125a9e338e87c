-- The loop keeps that the first i transitions are laid out and the rest is zero.
use Rattle.std.proofs.Common.{◌+◌, ◌*◌}
use Rattle.soda.specs.Workflows.{no_transition}
use Rattle.workflow.specs.Workflows.{transition_at}
use Rattle.workflow.proofs.Arrays.{Laid}
use Rattle.workflow.proofs.reading.transitions_of.Given as goal

abbrev pub invariant-loop-i : goal.invariant-loop-i
invariant-loop-i l = Laid no_transition 64 (λ i. transition_at l.bytes (4 + 3 * i)) l.count l.i l.transitions
