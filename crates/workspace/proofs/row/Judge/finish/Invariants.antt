-- The invariant: the words behind the operators that are left are done, whatever the places that the operators are listed of.
use Rattle.std.proofs.Common.{ℕ, List, length}
use Rattle.workspace.specs.Private.{Ascending, Listing}
use Rattle.workspace.proofs.Complete.{Walked, Left}
use Rattle.workspace.proofs.row.Judge.finish.Given as goal

abbrev pub invariant-loop-x : goal.invariant-loop-x
invariant-loop-x l =
    Left l.self.operators.now l.x-iterator.iter.rest.now
    × ((places : List ℕ) → Ascending places → Listing l.either' l.both places l.self.operators.now (length l.self.operators.now) (length places)
    → Walked l.base l.either' l.both places l.self.operators.now l.bits l.at_right (length l.x-iterator.iter.rest.now))
