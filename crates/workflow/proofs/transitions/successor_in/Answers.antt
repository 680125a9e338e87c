-- The first transition that leaves the state by the action says where it leads.
use Rattle.std.proofs.Common.{ℕ, ◌≡◌, [], ◌∷◌, refl, ap, ◌∙◌, rules, tests, Bor}
use Rattle.std.specs.List.{find}
use Rattle.std.specs.Option.{option_map}
use Rattle.std.proofs.lemmas.Iterator.{YieldsList-from_slice}
use Rattle.std.proofs.lemmas.Iterator.Search.{find_from_yields_List}
use Rattle.soda.specs.Workflows.{Transitions, leaves, successor}
use Rattle.soda.specs.declared.Transition.{Transition}
use Rattle.soda.proofs.Bools.{by_test}
use Rattle.workflow.proofs.transitions.successor_in.Goals as goal

leads_by : (l : Transitions) (s a : ℕ) → option_map (λ (x : Transition). x.next) (find (leaves s a) l) ≡ successor l s a
leads_by [] s a = refl
leads_by (x ∷ l) s a = by_test (leaves s a x) (λ e. rw e) λ e. rw e (leads_by l s a)

pub returns : goal.returns
returns c =
    let a = c.args in
    let found = find_from_yields_List (leaves a.state a.action) _ _ c.find.result c.find.ensures.ran (YieldsList-from_slice a.transitions.now cc) (λ x b q k. search (rules, tests)) in
    let mapped : c.map.result ≡ option_map (λ (x : Transition). x.next) (option_map (λ (y : Bor Transition). y.now) c.find.result) = search rules in
    mapped ∙ ap (option_map (λ (x : Transition). x.next)) found ∙ leads_by a.transitions.now a.state a.action
