-- The fold tests each place.
use Rattle.std.proofs.Common.{◌≡◌, Bool, ◌&&◌, true, List, [], ◌∷◌, sym, ◌∙◌, rules, tests}
use mathlib.Core.Bool.{and-true, and_assoc}
use Rattle.std.specs.List.{fold}
use Rattle.std.proofs.lemmas.Iterator.{YieldsList-from_slice}
use Rattle.std.proofs.lemmas.Iterator.Consumers.{fold_from_yields_List}
use Rattle.soda.specs.Lists.{all}
use Rattle.workflow.specs.Workflows.{is_idle}
use Rattle.workflow.proofs.transitions.are_idle.Goals as goal

so_far : {A : Type 0} (f : A → Bool) (t : Bool) (l : List A) → fold (λ b x. b && f x) t l ≡ (t && all f l)
so_far f t [] = sym (and-true t)
so_far f t (x ∷ l) = so_far f (t && f x) l ∙ and_assoc t (f x) (all f l)

pub returns : goal.returns
returns c =
    fold_from_yields_List _ (λ b x. b && is_idle x) _ _ c.fold.ensures.ran (YieldsList-from_slice c.args.transitions.now cc) (λ a x b q k. search (rules, tests))
    ∙ so_far is_idle true c.args.transitions.now
