-- The chain tests each taken action.
use Rattle.std.proofs.Common.{rules, tests, ◌∙◌}
use Rattle.std.proofs.lemmas.Iterator.{YieldsList-from_slice}
use Rattle.std.proofs.lemmas.Iterator.Search.{all_from_yields_List}
use borrow.Author.Tests.{le-leb}
use Rattle.configuration.proofs.Chains.{same_all}
use Rattle.instance.specs.Instances.{taken_of, action_ok}
use Rattle.instance.proofs.Instance.is_taken_ok.Goals as goal

pub returns-then-taken-le12 : goal.returns-then-taken-le12
returns-then-taken-le12 c =
    let a = c.args in
    let tested = all_from_yields_List (action_ok a.users a.units) _ _ c.all.result c.all.ensures.ran (YieldsList-from_slice (taken_of a.self) cc) (λ x b q k. search (rules, tests)) in
    rw (le-leb a.self.taken 12 c.if-taken-le12.true) (tested ∙ same_all (action_ok a.users a.units) (taken_of a.self))
