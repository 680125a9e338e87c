-- Where a count is refused so is the policy.
use Rattle.std.proofs.Common.{sym, ◌∙◌}
use Rattle.units.specs.Units.{survey_of}
use Rattle.configuration.proofs.Configuration.survey.Goals as goal

pub returns-then-not-counts_ok : goal.returns-then-not-counts_ok
unfolding survey_of
returns-then-not-counts_ok c = rw (sym c.counts_ok.ensures ∙ c.if-not-counts_ok.true)
