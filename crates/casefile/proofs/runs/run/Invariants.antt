-- The loop keeps that the output holds the lines of the first i events, and that the monitor is the one after them.
use Rattle.std.proofs.Common.{◌≡◌, length}
use Rattle.std.proofs.Math.Bool.{So}
use Rattle.monitor.specs.Monitors.{well_formed}
use Rattle.casefile.specs.Cases.{wides}
use Rattle.casefile.specs.Private.{Put}
use Rattle.casefile.proofs.Lines.{lines_of, after}
use Rattle.casefile.proofs.runs.run.Given as goal

abbrev pub invariant-loop-i : goal.invariant-loop-i
invariant-loop-i l = record {
  size : length l.workspace ≡ 8192;
  is_formed : So (well_formed l.current);
  same : l.current ≡ after l.fn.monitor (wides l.bytes l.from l.i);
  lines : Put l.fn.out 0 (lines_of l.fn.monitor 1 (wides l.bytes l.from l.i)) l.at l.out;
}
