-- The test of an iterator's `all` is that of the list (`Fillable`).
use Rattle.std.proofs.Common.{rules, tests, true, false, ltb, ◌≡◌}
use Rattle.std.proofs.lemmas.Iterator.{cases_from_all, YieldsList-from_slice}
use Rattle.soda.specs.declared.Action.{Action}
use Rattle.workspace.proofs.Fillable.{users-all}
use Rattle.workspace.proofs.users_ok.Goals as goal

pub returns : goal.returns
returns c =
    users-all _ _
    (cases_from_all _ _ _ (λ (a : Action). ltb a.user 16 ≡ true) (λ (a : Action). ltb a.user 16 ≡ false) c.all.ensures.ran (YieldsList-from_slice c.args.actions.now (cc))
    (λ x q k. search (rules, tests)) (λ x q k. search (rules, tests)))
