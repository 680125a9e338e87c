-- The fold tests each place.
use Rattle.std.proofs.Common.{◌≡◌, Bool, ◌&&◌, true, List, [], ◌∷◌, sym, ◌∙◌, rules, tests}
use mathlib.Core.Bool.{and-true, and_assoc}
use Rattle.std.specs.List.{fold}
use Rattle.std.proofs.lemmas.Iterator.{YieldsList-from_slice}
use Rattle.std.proofs.lemmas.Iterator.Consumers.{fold_from_yields_List}
use Rattle.soda.specs.Lists.{all}
use Rattle.soda.proofs.all_are.Goals as goal

so_far : {A : Type 0} (f : A → Bool) (t : Bool) (l : List A) → fold (λ b x. b && f x) t l ≡ (t && all f l)
so_far f t [] = sym (and-true t)
so_far f t (x ∷ l) = so_far f (t && f x) l ∙ and_assoc t (f x) (all f l)

pub returns : goal.returns
returns g c =
    fold_from_yields_List _ (λ b x. b && g.T.PartialEq.eq x c.args.value) _ _ c.fold.ensures.ran (YieldsList-from_slice c.args.places.now cc) (λ a x b q k. search (rules, tests))
    ∙ so_far (λ x. g.T.PartialEq.eq x c.args.value) true c.args.places.now
