-- Laws of tests over a list, and of the ways in which a list falls into two: the test `any` over `splits` is the relation `Split`.
use mathlib.Core.Path.{◌≡◌, refl, sym, ◌∙◌, ap}
use mathlib.Core.Logic.{◌⊎◌, inl, inr}
use mathlib.Core.Bool.{Bool, false, So, ◌&&◌, ◌||◌, and_assoc, or_assoc, or-false}
use mathlib.Core.List.{List, [], ◌∷◌, ◌++◌, map}
use Prim.Native.Nat.{ℕ, zero, suc, ◌<◌}
use native.Mathlib.Omega.{arith}
use lib.ListN.{length, get_or, replicate}
use Rattle.soda.specs.Lists.{any, all, to_left, to_right, splits, Split, nil, left, right}
use Rattle.soda.proofs.Bools.{and_split, and-join, or_split, or_left, or_right}

pub any_append : {A : Type 0} (f : A → Bool) (l m : List A) → any f (l ++ m) ≡ (any f l || any f m)
any_append f [] m = refl
any_append f (x ∷ l) m = ap (λ (b : Bool). f x || b) (any_append f l m) ∙ sym (or_assoc (f x) (any f l) (any f m))

pub all_append : {A : Type 0} (f : A → Bool) (l m : List A) → all f (l ++ m) ≡ (all f l && all f m)
all_append f [] m = refl
all_append f (x ∷ l) m = ap (λ (b : Bool). f x && b) (all_append f l m) ∙ sym (and_assoc (f x) (all f l) (all f m))

module _ {A B : Type 0} (g : A → B) (f : B → Bool) where
  pub any-map : (l : List A) → any f (map g l) ≡ any (λ x. f (g x)) l
  any-map [] = refl
  any-map (x ∷ l) = ap (λ (b : Bool). f (g x) || b) (any-map l)

  pub all_map : (l : List A) → all f (map g l) ≡ all (λ x. f (g x)) l
  all_map [] = refl
  all_map (x ∷ l) = ap (λ (b : Bool). f (g x) && b) (all_map l)

-- an element that passes
pub any_at : {A : Type 0} (f : A → Bool) (l : List A) (k : ℕ) (d : A) → k < length l → So (f (get_or l k d)) → So (any f l)
any_at f [] k d b h = absurd (omega arith)
any_at f (x ∷ l) zero d b h = or_left (f x) (any f l) h
any_at f (x ∷ l) (suc k) d b h = or_right (f x) (any f l) (any_at f l k d (omega arith) h)

pub all_replicate : {A : Type 0} (f : A → Bool) (n : ℕ) (a : A) → So (f a) → So (all f (replicate n a))
all_replicate f zero a h = refl
all_replicate f (suc n) a h = and-join (f a) (all f (replicate n a)) h (all_replicate f n a h)

module _ {A : Type 0} where
  any-splits : (f : List A × List A → Bool) (x : A) (s : List A)
      → any f (splits (x ∷ s)) ≡ (any (λ p. f (to_left x p)) (splits s) || any (λ p. f (to_right x p)) (splits s))
  any-splits f x s = any_append f (map (to_left x) (splits s)) (map (to_right x) (splits s))
      ∙ (λ i. any-map (to_left x) f (splits s) i || any-map (to_right x) f (splits s) i)

  -- two parts that pass
  pub record Found (f : List A × List A → Bool) (s : List A) : Type 0 where
    pub one : List A
    pub two : List A
    pub split : Split s one two
    pub passes : So (f (one, two))

  -- the test over all ways passes exactly when some way passes
  pub split_out : (f : List A × List A → Bool) (s : List A) → So (any f (splits s)) → Found f s
  split_out f [] e = record { one = []; two = []; split = nil; passes = sym (or-false (f ([], []))) ∙ e }
  split_out f (x ∷ s) e = go (or_split (any (λ p. f (to_left x p)) (splits s)) (any (λ p. f (to_right x p)) (splits s)) (sym (any-splits f x s) ∙ e))
      (split_out (λ p. f (to_left x p)) s) (split_out (λ p. f (to_right x p)) s)
    where
      go : So (any (λ p. f (to_left x p)) (splits s)) ⊎ So (any (λ p. f (to_right x p)) (splits s))
          → (So (any (λ p. f (to_left x p)) (splits s)) → Found (λ p. f (to_left x p)) s)
          → (So (any (λ p. f (to_right x p)) (splits s)) → Found (λ p. f (to_right x p)) s) → Found f (x ∷ s)
      go (inl h) l r = let q = l h in record { one = x ∷ q.one; two = q.two; split = left q.split; passes = q.passes }
      go (inr h) l r = let q = r h in record { one = q.one; two = x ∷ q.two; split = right q.split; passes = q.passes }

  pub split_in : (f : List A × List A → Bool) {s l r : List A} → Split s l r → So (f (l, r)) → So (any f (splits s))
  split_in f nil e = or_left (f ([], [])) false e
  split_in f (left {x = x} {s = s} p) e =
      any-splits f x s ∙ or_left (any (λ q. f (to_left x q)) (splits s)) (any (λ q. f (to_right x q)) (splits s)) (split_in (λ q. f (to_left x q)) p e)
  split_in f (right {x = x} {s = s} p) e =
      any-splits f x s ∙ or_right (any (λ q. f (to_left x q)) (splits s)) (any (λ q. f (to_right x q)) (splits s)) (split_in (λ q. f (to_right x q)) p e)

  pub split_swap : {s l r : List A} → Split s l r → Split s r l
  split_swap nil = nil
  split_swap (left p) = right (split_swap p)
  split_swap (right p) = left (split_swap p)

  -- three parts: first a and b together, or first b and r
  pub split_assoc : {s l r a b : List A} → Split s l r → Split l a b → (n : List A) × Split s a n × Split n b r
  split_assoc nil nil = ([], nil, nil)
  split_assoc (left p) (left q) = let (n, x, y) = split_assoc p q in (n, left x, y)
  split_assoc (left {x = c} p) (right q) = let (n, x, y) = split_assoc p q in (c ∷ n, right x, left y)
  split_assoc (right {x = c} p) q = let (n, x, y) = split_assoc p q in (c ∷ n, right x, right y)

  pub split_append : (s t : List A) → Split (s ++ t) s t
  split_append [] [] = nil
  split_append [] (x ∷ t) = right (split_append [] t)
  split_append (x ∷ s) t = left (split_append s t)

  -- what holds of all elements holds of all of a part, and the other way round of both parts
  pub all_part : (f : A → Bool) {s l r : List A} → Split s l r → So (all f s) → So (all f l)
  all_part f nil h = refl
  all_part f (left {x = x} {s = s} {l = l} p) h = let k = and_split (f x) (all f s) h in and-join (f x) (all f l) k.0 (all_part f p k.1)
  all_part f (right {x = x} {s = s} p) h = all_part f p (and_split (f x) (all f s) h).1

  pub all_parts : (f : A → Bool) {s l r : List A} → Split s l r → So (all f l) → So (all f r) → So (all f s)
  all_parts f nil h k = refl
  all_parts f (left {x = x} {s = s} {l = l} p) h k = let m = and_split (f x) (all f l) h in and-join (f x) (all f s) m.0 (all_parts f p m.1 k)
  all_parts f (right {x = x} {s = s} {r = r} p) h k = let m = and_split (f x) (all f r) k in and-join (f x) (all f s) m.0 (all_parts f p h m.1)

-- two splits of one list cut each other's sides
pub record Cross {A : Type 0} (l r s₁ s₂ : List A) : Type 0 where
  pub l₁ : List A
  pub l₂ : List A
  pub r₁ : List A
  pub r₂ : List A
  pub on_left : Split l l₁ l₂
  pub on_right : Split r r₁ r₂
  pub on_one : Split s₁ l₁ r₁
  pub on_two : Split s₂ l₂ r₂

pub cross : {A : Type 0} {s l r s₁ s₂ : List A} → Split s l r → Split s s₁ s₂ → Cross l r s₁ s₂
cross nil nil = record { l₁ = []; l₂ = []; r₁ = []; r₂ = []; on_left = nil; on_right = nil; on_one = nil; on_two = nil }
cross (left {x = x} d) (left e) = let c = cross d e in
    record { l₁ = x ∷ c.l₁; l₂ = c.l₂; r₁ = c.r₁; r₂ = c.r₂; on_left = left c.on_left; on_right = c.on_right; on_one = left c.on_one; on_two = c.on_two }
cross (left {x = x} d) (right e) = let c = cross d e in
    record { l₁ = c.l₁; l₂ = x ∷ c.l₂; r₁ = c.r₁; r₂ = c.r₂; on_left = right c.on_left; on_right = c.on_right; on_one = c.on_one; on_two = left c.on_two }
cross (right {x = x} d) (left e) = let c = cross d e in
    record { l₁ = c.l₁; l₂ = c.l₂; r₁ = x ∷ c.r₁; r₂ = c.r₂; on_left = c.on_left; on_right = left c.on_right; on_one = right c.on_one; on_two = c.on_two }
cross (right {x = x} d) (right e) = let c = cross d e in
    record { l₁ = c.l₁; l₂ = c.l₂; r₁ = c.r₁; r₂ = x ∷ c.r₂; on_left = c.on_left; on_right = right c.on_right; on_one = c.on_one; on_two = right c.on_two }

-- splits of a mapped list are mapped splits
module _ {A B : Type 0} (f : A → B) where
  pub any-splits-map : (h : List B × List B → Bool) (s : List A) → any h (splits (map f s)) ≡ any (λ p. h (map f p.0, map f p.1)) (splits s)
  any-splits-map h [] = refl
  any-splits-map h (x ∷ s) = any-splits h (f x) (map f s)
      ∙ (λ i. any-splits-map (λ p. h (to_left (f x) p)) s i || any-splits-map (λ p. h (to_right (f x) p)) s i)
      ∙ sym (any-splits (λ p. h (map f p.0, map f p.1)) x s)

  pub split_map : {s l r : List A} → Split s l r → Split (map f s) (map f l) (map f r)
  split_map nil = nil
  split_map (left p) = left (split_map p)
  split_map (right p) = right (split_map p)

  pub record Unmapped (s : List A) (l r : List B) : Type 0 where
    pub one : List A
    pub two : List A
    pub split : Split s one two
    pub is_one : map f one ≡ l
    pub is_two : map f two ≡ r

  pub unmap : (s : List A) {l r : List B} → Split (map f s) l r → Unmapped s l r
  unmap [] nil = record { one = []; two = []; split = nil; is_one = refl; is_two = refl }
  unmap (a ∷ s) (left d) = let u = unmap s d in
      record { one = a ∷ u.one; two = u.two; split = left u.split; is_one = ap (λ x. f a ∷ x) u.is_one; is_two = u.is_two }
  unmap (a ∷ s) (right d) = let u = unmap s d in
      record { one = u.one; two = a ∷ u.two; split = right u.split; is_one = u.is_one; is_two = ap (λ x. f a ∷ x) u.is_two }
