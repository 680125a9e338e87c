-- The next transition is laid out; at the end all are.
use Rattle.std.proofs.Common.{arith}
use Rattle.workflow.proofs.Arrays.{laid_next, laid-all}
use Rattle.workflow.proofs.reading.transitions_of.Goals as goal

pub loop-i-preserved : goal.loop-i-preserved
loop-i-preserved c = laid_next c.loop-i.invariant _ (omega arith) (omega arith) c.transition_at.ensures

pub returns : goal.returns
returns c = laid-all c.loop-i.invariant (omega arith)
