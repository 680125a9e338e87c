-- What is still to be read decides (`Remains`).
use Rattle.std.proofs.Common.{◌-◌, ◌^◌, ◌≤◌, ◌<◌, length}
use Rattle.parser.proofs.Setting.{Remains}
use Rattle.parser.proofs.sets.read_set.Given as goal

abbrev pub invariant-loop-number : goal.invariant-loop-number
invariant-loop-number l = record {
  inside : l.at ≤ length l.text;
  low : l.low ≤ 16;
  below : l.mask < 2 ^ l.low;
  remains : Remains l.text l.at l.low l.mask;
}

abbrev pub decreases-loop-number : goal.decreases-loop-number
decreases-loop-number l = length l.text - l.at
