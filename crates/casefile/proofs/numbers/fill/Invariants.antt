-- The loop keeps that the first i places hold the first i numbers.
use Rattle.std.proofs.Common.{◌≡◌, take}
use Rattle.casefile.specs.Cases.{numbers}
use Rattle.casefile.proofs.numbers.fill.Given as goal

abbrev pub invariant-loop-i : goal.invariant-loop-i
invariant-loop-i g l = take l.i l.places ≡ numbers (g.T.Number.at l.bytes) g.T.Number.WIDTH l.k l.i
