-- i words are passed, and `terms` terms are still to be passed.
use Rattle.std.proofs.Common.{◌≡◌, ◌+◌, ◌≤◌, drop}
use Rattle.normal.specs.Private.{span}
use Rattle.normal.proofs.words_in.Given as goal

abbrev pub invariant-loop-i : goal.invariant-loop-i
invariant-loop-i l = (l.terms ≤ 1 + l.i) × (l.i + span l.terms (drop l.i l.words) ≡ span 1 l.words)
