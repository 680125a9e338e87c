-- What is found of the words, where they are of a policy's length.
use Rattle.std.proofs.Common.{sym, ◌∙◌, rules}
use Rattle.units.specs.Units.{unit_words}
use Rattle.units.proofs.Found.{formed-units}
use Rattle.units.proofs.units_of.Goals as goal

pub returns-then-not-length_ok : goal.returns-then-not-length_ok
unfolding unit_words
returns-then-not-length_ok c = search rules

pub returns-in_err-term : goal.returns-in_err-term
returns-in_err-term c =
    c.from_residual.ensures ∙ formed-units c.args.words.now _ c.if-not-length_ok.ensures (sym c.in_err-term.was ∙ c.analyse.ensures)

pub returns-then-term : goal.returns-then-term
returns-then-term c =
    rw c.if-term.true at (formed-units c.args.words.now _ c.if-not-length_ok.ensures (sym c.in_ok-term.was ∙ c.analyse.ensures))

pub returns-else-term : goal.returns-else-term
returns-else-term c =
    rw c.if-term.false at (formed-units c.args.words.now _ c.if-not-length_ok.ensures (sym c.in_ok-term.was ∙ c.analyse.ensures))
