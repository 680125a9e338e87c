-- The invariant: v is above u, who has not acted.
use Rattle.std.proofs.Common.{◌≡◌, false}
use Rattle.soda.specs.Bits.{bit}
use Rattle.workspace.proofs.trials.like_of.Given as goal

abbrev pub invariant-loop-v : goal.invariant-loop-v
invariant-loop-v l = bit l.u l.acted ≡ false
