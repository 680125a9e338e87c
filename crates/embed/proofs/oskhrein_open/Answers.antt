-- What is lent of the opening's answer: the monitor, or the number, the place and the blank one.
use Rattle.std.proofs.Common.{ℕ, ap, ◌∙◌}
use Rattle.policy.specs.Faults.{code_number}
use Rattle.workflow.specs.Workflows.{no_workflow}
use Rattle.monitor.specs.Monitors.{Opened, blank}
use Rattle.embed.specs.Lent.{place_left, OpeningLent, opening_lent}
use Rattle.embed.proofs.oskhrein_open.Goals as goal

-- what is lent of an answer by value
abbrev lent : ℕ → Opened → OpeningLent
lent place o = record { code = code_number o.code; place = place_left o.code place; monitor = o.monitor }

pub returns-in-Ok : goal.returns-in-Ok
unfolding opening_lent
returns-in-Ok c = ap (lent c.args.place.now) c.in-Ok.ensures

pub returns-in-Err : goal.returns-in-Err
unfolding opening_lent blank no_workflow
returns-in-Err c =
    (λ i. record { code = c.lend.ensures.number i; place = c.lend.ensures.place_after i; monitor = blank }) ∙ ap (lent c.args.place.now) c.in-Err.ensures
