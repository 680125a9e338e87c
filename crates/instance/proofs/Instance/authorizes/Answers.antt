-- Without a workflow everything is permitted; else the permissions say.
use Rattle.std.proofs.Common.{ℕ, sym, ap, ◌∙◌}
use Rattle.soda.specs.Roles.{authorized}
use Rattle.instance.specs.Steps.{is_authorized}
use Rattle.instance.proofs.Instance.authorizes.Goals as goal

pub returns-then-not-is_given : goal.returns-then-not-is_given
unfolding is_authorized
returns-then-not-is_given c = rw (sym c.is_given.ensures, c.if-not-is_given.true)

pub returns-else-not-is_given : goal.returns-else-not-is_given
unfolding is_authorized
returns-else-not-is_given c =
    let a = c.args in
    rw (sym c.is_given.ensures ∙ c.if-not-is_given.false)
    (c.authorized.ensures ∙ ap (λ (x : ℕ). authorized a.configuration.permissions x a.action) c.held.ensures)
