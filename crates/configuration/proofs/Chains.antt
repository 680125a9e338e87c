-- What chains of iterators and of `&&` give.
use mathlib.Core.Path.{◌≡◌, refl, sym, ap, ◌∙◌}
use mathlib.Core.Bool.{Bool, true, false, ◌&&◌}
use mathlib.Core.List.{List, [], ◌∷◌}
use Rattle.std.specs.List.{list_all}
use Rattle.soda.specs.Lists.{all}

-- `all` of an iterator is that of definitions
pub same_all : {A : Type 0} (f : A → Bool) (l : List A) → list_all f l ≡ all f l
same_all f [] = refl
same_all f (x ∷ l) = ap (λ (b : Bool). f x && b) (same_all f l)

-- of two tests, the second is asked where the first holds ..
pub and_then : {a b v : Bool} {x y : Bool} → a ≡ x → a ≡ true → b ≡ y → v ≡ b → v ≡ (x && y)
and_then ax at by vb = rw (sym ax ∙ at) (vb ∙ by)

-- .. and else the first is the answer
pub and_else : {a v : Bool} {x : Bool} (y : Bool) → a ≡ x → a ≡ false → v ≡ a → v ≡ (x && y)
and_else y ax af va = rw (sym ax ∙ af) (va ∙ af)
