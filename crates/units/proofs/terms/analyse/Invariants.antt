-- The words that are left stand in front; those behind are a row of terms, and `row` is what is kept of it.
use Rattle.std.specs.Iterator.Adapters.{rev_source}
use Rattle.std.specs.Slice.Iter.{iter_rest}
use Rattle.units.proofs.Stacks.{Read}
use Rattle.units.proofs.terms.analyse.Given as goal

abbrev pub invariant-loop-word : goal.invariant-loop-word
invariant-loop-word l = Read l.user l.held l.words (iter_rest (rev_source l.word-iterator)) l.row
