-- What is found of the words, where they are of a policy's length.
use Rattle.std.proofs.Common.{◌≡◌, rules}
use mathlib.Core.Option.{Option, some, none}
use Rattle.soda.specs.Terms.{Term}
use Rattle.policy.specs.Words.{decode}
use Rattle.units.specs.Private.{analysis_in}
use Rattle.units.specs.Units.{met_in, met_of}
use Rattle.units.proofs.met.Goals as goal

pub returns-then-not-length_ok : goal.returns-then-not-length_ok
unfolding met_of
returns-then-not-length_ok c = search rules

pub returns : goal.returns
unfolding met_of
returns c =
    let a = c.args in
    rw (← c.if-not-length_ok.ensures) (go (decode a.words.now) c.analyse.ensures)
  where
    go : (x : Option Term) → c.analyse.result ≡ analysis_in c.args.user c.args.held x → c.map_or.result ≡ met_in x c.args.user c.args.held
    go none e = rw e at c.map_or.ensures
    go (some φ) e = let h = rw e at c.map_or.ensures in search rules
