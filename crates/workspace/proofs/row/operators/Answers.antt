-- A turn lists its word or skips it (`Complete`): it is one of 31, and its right side begins behind it.
use Rattle.std.proofs.Common.{rules, arith, shl_exact}
use Rattle.workspace.proofs.Complete.{list_begin, list_skip, list_take}
use Rattle.workspace.proofs.row.operators.Goals.{then-either-both-ne0, else-either-both-ne0}
use Rattle.workspace.proofs.row.operators.Goals as goal

pub loop-at-init : goal.loop-at-init
loop-at-init c = list_begin

pub loop-at-preserved : goal.loop-at-preserved
loop-at-preserved c = elim c.if-either-both-ne0.branch [
  | then-either-both-ne0 w ↦ rw (w.ops-is, w.n-is) (list_take c.requires.0 c.requires.1 c.loop-at-test.true c.loop-at.invariant)
  | else-either-both-ne0 w ↦ rw (w.ops-is, w.n-is) (list_skip c.loop-at-test.true
      (shl_exact {a = 4294967297} 33 c.loop-at.at 64 (search rules) (omega (arith, c.loop-at-test.true, c.requires.0.short)))
      w.if-either-both-ne0.false c.loop-at.invariant)
]
