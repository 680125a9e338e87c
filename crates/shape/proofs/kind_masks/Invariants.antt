-- The invariant: the masks are those of the words before i.
use Rattle.std.proofs.Common.{take}
use Rattle.shape.specs.Private.{MasksOf}
use Rattle.shape.proofs.kind_masks.Given as goal

abbrev pub invariant-loop-i : goal.invariant-loop-i
invariant-loop-i l = MasksOf (take l.i l.words) l.masks
