-- Lists of transitions with one more, and their front parts.
use mathlib.Core.Path.{◌≡◌, refl, sym, ap, subst, ◌∙◌}
use mathlib.Core.Bool.{Bool, So, ◌||◌, or-false, or_comm}
use mathlib.Core.List.{List, [], ◌∷◌, ◌++◌}
use Prim.Native.Nat.{ℕ, zero, suc}
use lib.ListN.{take, drop}
use Rattle.soda.specs.Lists.{any}
use Rattle.soda.specs.Workflows.{Transitions, deterministic}
use Rattle.soda.proofs.Splits.{any_append}
use Rattle.soda.proofs.Workflows.{deterministic_front}

-- one more element is tested like the others
pub any-more : {A : Type 0} (f : A → Bool) (l : List A) (x : A) → any f (l ++ (x ∷ [])) ≡ (f x || any f l)
any-more f l x = any_append f l (x ∷ []) ∙ ap (λ (b : Bool). any f l || b) (or-false (f x)) ∙ or_comm (any f l) (f x)

rejoined : {A : Type 0} (n : ℕ) (l : List A) → take n l ++ drop n l ≡ l
rejoined zero l = refl
rejoined (suc n) [] = refl
rejoined {A = A} (suc n) (x ∷ l) = ap (λ (m : List A). x ∷ m) (rejoined n l)

pub deterministic-first : (n : ℕ) (l : Transitions) → So (deterministic l) → So (deterministic (take n l))
deterministic-first n l h = deterministic_front (take n l) (drop n l) (subst (λ (m : Transitions). So (deterministic m)) (sym (rejoined n l)) h)
