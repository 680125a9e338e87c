-- Without a workflow the state stays; else the workflow says.
use Rattle.std.proofs.Common.{sym, ◌∙◌}
use Rattle.instance.specs.Steps.{leads_to}
use Rattle.instance.proofs.Instance.successor.Goals as goal

pub returns-then-not-is_given : goal.returns-then-not-is_given
unfolding leads_to
returns-then-not-is_given c = rw (sym c.is_given.ensures ∙ c.if-not-is_given.true)

pub returns : goal.returns
unfolding leads_to
returns c = rw (sym c.is_given.ensures ∙ c.if-not-is_given.false) c.successor.ensures
