-- What a loop keeps that goes over a list from a place on: a function of the whole list, which is b, is that of those from i on.
use mathlib.Core.Path.{◌≡◌, ◌∙◌, sym, ap}
use mathlib.Core.Bool.{Bool, ◌&&◌, and_assoc, and-true}
use mathlib.Core.List.{List, [], ◌∷◌}
use Prim.Native.Nat.{ℕ, suc, ◌+◌, ◌-◌, ◌≤◌, ◌<◌}
use native.Mathlib.Omega.{arith}
use native.Mathlib.Numerals.{add-one}
use lib.ListN.{length, get_or, drop, drop_of_length-le}
use lib.Seq.{drop-cons}
use Rattle.soda.specs.Lists.{all, range}

module _ {A B : Type 0} (f : List A → B) (xs : List A) (d : A) (i : ℕ) {b : B} (kept : b ≡ f (drop i xs)) where
  -- one is left: it stands first
  pub next : i < length xs → b ≡ f (get_or xs i d ∷ drop (i + 1) xs)
  next h = kept ∙ rw (drop-cons xs i d, add-one)

  -- none is left
  pub end : length xs ≤ i → b ≡ f []
  end h = kept ∙ ap f (drop_of_length-le xs h)

-- A loop that tests every element from a place on and has found t so far: the test of all, which is b, is t and the test of those from i on.
module _ {A : Type 0} (f : A → Bool) (xs : List A) (d : A) (i : ℕ) (t : Bool) {b : Bool} (kept : b ≡ (t && all f (drop i xs))) where
  -- it finds r at place i
  pub every_turn : (r : Bool) → r ≡ f (get_or xs i d) → i < length xs → b ≡ ((t && r) && all f (drop (i + 1) xs))
  every_turn r e h =
      next (λ l. t && all f l) xs d i kept h
      ∙ ap (λ (x : Bool). t && (x && all f (drop (i + 1) xs))) (sym e)
      ∙ sym (and_assoc t r (all f (drop (i + 1) xs)))

  -- none is left
  pub every_end : length xs ≤ i → t ≡ b
  every_end h = sym (end (λ l. t && all f l) xs d i kept h ∙ and-true t)

-- the numbers from i on below n
pub range-next : (i n : ℕ) → i < n → range i (n - i) ≡ i ∷ range (i + 1) (n - (i + 1))
range-next i n h = let e : n - i ≡ suc (n - (i + 1)) = omega arith in rw (e, add-one i)

pub range_end : (i n : ℕ) → n ≤ i → range i (n - i) ≡ []
range_end i n h = let e : n - i ≡ 0 = omega arith in rw e
