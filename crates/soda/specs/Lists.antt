-- Lists: tests over their elements, the ways in which a list falls into two, parts and padding, counting, sorting and merging.
use Rattle.std.specs.Prelude.{Bool, true, false, ◌&&◌, ◌||◌, cond, List, [], ◌∷◌, ◌++◌, map, ℕ, zero, suc, ◌+◌, ◌-◌, eqb, length, take, drop, replicate}

module _ {A : Type 0} where
  abbrev pub any : (A → Bool) → List A → Bool
  any f [] = false
  any f (x ∷ l) = f x || any f l

  abbrev pub all : (A → Bool) → List A → Bool
  all f [] = true
  all f (x ∷ l) = f x && all f l

  -- the place of the first element that fails the test, counted from 0; the length if none does
  abbrev pub first_failing : (A → Bool) → List A → ℕ
  first_failing f [] = 0
  first_failing f (x ∷ l) = cond (f x) (suc (first_failing f l)) 0

  abbrev pub to_left : A → List A × List A → List A × List A
  to_left x p = (x ∷ p.0, p.1)

  abbrev pub to_right : A → List A × List A → List A × List A
  to_right x p = (p.0, x ∷ p.1)

  -- every way in which a list falls into two (document 01: "S falls into two separate sets")
  abbrev pub splits : List A → List (List A × List A)
  splits [] = ([], []) ∷ []
  splits (x ∷ l) = map (to_left x) (splits l) ++ map (to_right x) (splits l)

  -- the same as a relation: s falls into l and r; so l is a part of s
  pub data Split : List A → List A → List A → Type 0 where
    nil : Split [] [] []
    left : {x : A} {s l r : List A} → Split s l r → Split (x ∷ s) (x ∷ l) r
    right : {x : A} {s l r : List A} → Split s l r → Split (x ∷ s) l (x ∷ r)

-- the n numbers from i on
abbrev pub range : ℕ → ℕ → List ℕ
range i zero = []
range i (suc n) = i ∷ range (suc i) n

-- what stands from place k on, as the code's `&l[k..]` takes it
abbrev pub from : ℕ → List ℕ → List ℕ
from k l = take (length l - k) (drop k l)

-- zeros behind a list, up to n in all
abbrev pub padded : ℕ → List ℕ → List ℕ
padded n l = l ++ replicate (n - length l) 0

-- how often a number occurs
abbrev pub count : ℕ → List ℕ → ℕ
count n [] = 0
count n (x ∷ l) = cond (eqb n x) 1 0 + count n l

-- sorting by an order; equal elements are all kept
module _ {A : Type 0} (le : A → A → Bool) where
  abbrev pub insert : A → List A → List A
  insert x [] = x ∷ []
  insert x (y ∷ l) = cond (le x y) (x ∷ y ∷ l) (y ∷ insert x l)

  abbrev pub sort : List A → List A
  sort [] = []
  sort (x ∷ l) = insert x (sort l)

  -- no element is above the next
  abbrev pub ascending : List A → Bool
  ascending [] = true
  ascending (x ∷ []) = true
  ascending (x ∷ y ∷ l) = le x y && ascending (y ∷ l)

  -- Two ascending lists as one. `merge_into x rest ys`: x and what follows it in the first list (`rest` merges that), with ys.
  abbrev pub merge_into : A → (List A → List A) → List A → List A
  merge_into x rest [] = x ∷ rest []
  merge_into x rest (y ∷ ys) = cond (le x y) (x ∷ rest (y ∷ ys)) (y ∷ merge_into x rest ys)

  abbrev pub merge : List A → List A → List A
  merge [] ys = ys
  merge (x ∷ xs) ys = merge_into x (merge xs) ys
