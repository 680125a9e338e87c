-- Without a workflow nothing is asked; else the workflow says.
use Rattle.std.proofs.Common.{sym, ◌∙◌}
use Rattle.instance.specs.Steps.{is_final}
use Rattle.instance.proofs.Instance.is_final.Goals as goal

pub returns-then-not-is_given : goal.returns-then-not-is_given
unfolding is_final
returns-then-not-is_given c = rw (sym c.is_given.ensures, c.if-not-is_given.true)

pub returns-else-not-is_given : goal.returns-else-not-is_given
unfolding is_final
returns-else-not-is_given c = rw (sym c.is_given.ensures ∙ c.if-not-is_given.false) c.is_final.ensures
