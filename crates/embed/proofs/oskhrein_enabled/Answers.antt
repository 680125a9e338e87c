-- The mask takes the place of the lent users; after a refusal they stay.
use Rattle.std.proofs.Common.{ℕ, ap, ◌∙◌}
use Rattle.monitor.specs.Enabled.{EnabledOutcome, enabled_number}
use Rattle.embed.specs.Lent.{users_left, LentOutcome, enabled_lent}
use Rattle.embed.proofs.oskhrein_enabled.Goals as goal

-- what is left of an answer by value
abbrev left : ℕ → EnabledOutcome → LentOutcome
left users o = record { code = enabled_number o.answer; users = users_left o.answer users; workspace = o.workspace }

pub returns-in-Ok : goal.returns-in-Ok
unfolding enabled_lent
returns-in-Ok c = ap (left c.args.users.now) c.in-Ok.ensures

pub returns-in-Err : goal.returns-in-Err
unfolding enabled_lent
returns-in-Err c =
    ap (λ (n : ℕ). record { code = n; users = c.args.users.now; workspace = c.enabled.new.workspace }) c.number.ensures
    ∙ ap (left c.args.users.now) c.in-Err.ensures
