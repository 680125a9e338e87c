-- What the first users meet is laid out, and the rest is zero.
use Rattle.std.proofs.Common.{◌≡◌}
use Rattle.soda.proofs.Lists.{copied}
use Rattle.units.proofs.Each.{mets}
use Rattle.units.proofs.met_each.Given as goal

abbrev pub invariant-loop-user : goal.invariant-loop-user
invariant-loop-user l = l.each ≡ copied 16 (mets l.words l.rows) l.user
