-- The table does not look at the order of the actions: where a list is reordered, each way in which it falls into two is one in
-- which the reordered list does, with the parts reordered.
use mathlib.Core.Path.{◌≡◌, refl, sym, ◌∙◌, ap, ap₂, fun_ext}
use mathlib.Core.Logic.{∥∥₁_elim}
use mathlib.Core.Bool.{Bool, false, So, not, ◌&&◌, ◌||◌, cond, and_comm, and_assoc, or_comm, or_assoc, Bool-set}
use mathlib.Core.List.Perm
use mathlib.Core.List.Permᴰ
use mathlib.Core.List.{List, [], ◌∷◌, ◌++◌, Perm, perm_append_singleton, Permᴰ}
use Prim.Native.Nat.{ℕ, ◌+◌}
use lib.Dec.{eqb}
use Rattle.soda.specs.Lists.{any, all, Split, nil, left, right}
use Rattle.soda.specs.Terms.{Op, either, both, together, apart, Term, everyone, role, set, ¬ᵗ◌, ◌⁺, bin, unit, size}
use Rattle.soda.specs.Tables.{single, several, acts, disjoint, join, table}
use Rattle.soda.specs.Accuracy.{OrderPlaysNoPart}
use Rattle.soda.proofs.Bools.{same_test}
use Rattle.soda.proofs.Tables.{Judgement, Halves, together_out, together_in, apart_out, apart_in}

-- ── tests over the elements ──
and_swap : (a b c : Bool) → (a && (b && c)) ≡ (b && (a && c))
and_swap a b c = sym (and_assoc a b c) ∙ ap (λ (x : Bool). x && c) (and_comm a b) ∙ and_assoc b a c

or_swap : (a b c : Bool) → (a || (b || c)) ≡ (b || (a || c))
or_swap a b c = sym (or_assoc a b c) ∙ ap (λ (x : Bool). x || c) (or_comm a b) ∙ or_assoc b a c

module _ {A : Type 0} (f : A → Bool) where
  any_order : {s t : List A} → Permᴰ s t → any f s ≡ any f t
  any_order Permᴰ.nil = refl
  any_order (Permᴰ.cons p d) = ap₂ ◌||◌ (ap f p) (any_order d)
  any_order (Permᴰ.swap {a = a} {b = b} {l = l} p q) = or_swap (f a) (f b) (any f l) ∙ (λ i. f (q i) || (f (p i) || any f l))
  any_order (Permᴰ.trans d e) = any_order d ∙ any_order e

  all_order : {s t : List A} → Permᴰ s t → all f s ≡ all f t
  all_order Permᴰ.nil = refl
  all_order (Permᴰ.cons p d) = ap₂ ◌&&◌ (ap f p) (all_order d)
  all_order (Permᴰ.swap {a = a} {b = b} {l = l} p q) = and_swap (f a) (f b) (all f l) ∙ (λ i. f (q i) && (f (p i) && all f l))
  all_order (Permᴰ.trans d e) = all_order d ∙ all_order e

  -- b of the empty list alone
  abbrev only : Bool → List A → Bool
  only b [] = b
  only b (x ∷ s) = false

  only_order : (b : Bool) {s t : List A} → Permᴰ s t → only b s ≡ only b t
  only_order b Permᴰ.nil = refl
  only_order b (Permᴰ.cons p d) = refl
  only_order b (Permᴰ.swap p q) = refl
  only_order b (Permᴰ.trans d e) = only_order b d ∙ only_order b e

  single_only : (e : Bool) (a : A) (s : List A) → single e f (a ∷ s) ≡ only (f a) s
  single_only e a [] = refl
  single_only e a (b ∷ s) = refl

  single_order : (e : Bool) {s t : List A} → Permᴰ s t → single e f s ≡ single e f t
  single_order e Permᴰ.nil = refl
  single_order e (Permᴰ.cons {a = a} {b = b} {l₁ = l} {l₂ = m} p d) = single_only e a l ∙ ap (λ x. only (f x) l) p ∙ only_order (f b) d ∙ sym (single_only e b m)
  single_order e (Permᴰ.swap p q) = refl
  single_order e (Permᴰ.trans d c) = single_order e d ∙ single_order e c

  several_order : (e : Bool) {s t : List A} → Permᴰ s t → several e f s ≡ several e f t
  several_order e Permᴰ.nil = refl
  several_order e (Permᴰ.cons p d) = all_order (Permᴰ.cons p d)
  several_order e (Permᴰ.swap {l = l} p q) = all_order (Permᴰ.swap {l = l} p q)
  several_order e (Permᴰ.trans d c) = several_order e d ∙ several_order e c

-- ── ways to fall into two ──
module _ {A : Type 0} where
  -- two parts of t, which are l and r reordered
  record Reordered (t l r : List A) : Type 0 where
    one : List A
    two : List A
    split : Split t one two
    on_one : Permᴰ l one
    on_two : Permᴰ r two

  split_order : {s t : List A} → Permᴰ s t → (l r : List A) → Split s l r → Reordered t l r
  split_order Permᴰ.nil l r nil = record { one = []; two = []; split = nil; on_one = Permᴰ.nil; on_two = Permᴰ.nil }
  split_order (Permᴰ.cons {b = b} p d) l r (left {l = m} x) = let c = split_order d m r x in
      record { one = b ∷ c.one; two = c.two; split = left c.split; on_one = Permᴰ.cons p c.on_one; on_two = c.on_two }
  split_order (Permᴰ.cons {b = b} p d) l r (right {r = m} x) = let c = split_order d l m x in
      record { one = c.one; two = b ∷ c.two; split = right c.split; on_one = c.on_one; on_two = Permᴰ.cons p c.on_two }
  split_order (Permᴰ.swap {a' = a} {b' = b} p q) l r (left (left {l = m} x)) =
      record { one = a ∷ b ∷ m; two = r; split = left (left x); on_one = Permᴰ.swap p q; on_two = Permᴰ.refl r }
  split_order (Permᴰ.swap {a' = a} {b' = b} p q) l r (left (right {l = m} {r = n} x)) =
      record { one = b ∷ m; two = a ∷ n; split = right (left x); on_one = Permᴰ.cons p (Permᴰ.refl m); on_two = Permᴰ.cons q (Permᴰ.refl n) }
  split_order (Permᴰ.swap {a' = a} {b' = b} p q) l r (right (left {l = m} {r = n} x)) =
      record { one = a ∷ m; two = b ∷ n; split = left (right x); on_one = Permᴰ.cons q (Permᴰ.refl m); on_two = Permᴰ.cons p (Permᴰ.refl n) }
  split_order (Permᴰ.swap {a' = a} {b' = b} p q) l r (right (right {r = n} x)) =
      record { one = l; two = a ∷ b ∷ n; split = right (right x); on_one = Permᴰ.refl l; on_two = Permᴰ.swap p q }
  split_order (Permᴰ.trans d e) l r x = let c = split_order d l r x in let k = split_order e c.one c.two c.split in
      record { one = k.one; two = k.two; split = k.split; on_one = Permᴰ.trans c.on_one k.on_one; on_two = Permᴰ.trans c.on_two k.on_two }

module _ {A : Type 0} (user : A → ℕ) where
  disjoint_order : {s s' t t' : List A} → Permᴰ s s' → Permᴰ t t' → disjoint user s t ≡ disjoint user s' t'
  disjoint_order {s = s} {t' = t'} d e =
      ap (λ (f : A → Bool). all f s) (fun_ext (λ a. ap not (any_order (λ b. eqb (user b) (user a)) e)))
      ∙ all_order (λ a. not (acts user (user a) t')) d

  -- a judgement that does not look at the order
  abbrev Orderless : Judgement A → Type 0
  Orderless f = (s t : List A) → Permᴰ s t → f s ≡ f t

  module _ (f g : Judgement A) (p : Orderless f) (q : Orderless g) where
    -- the parts of s, reordered, for t
    halves_order : {s t : List A} → Permᴰ s t → (h : Halves user f g s) → (k : Halves user f g t) × Permᴰ h.one k.one × Permᴰ h.two k.two
    halves_order d h =
        let c = split_order d h.one h.two h.split in (
          record {
            one = c.one;
            two = c.two;
            split = c.split;
            for_one = sym (p h.one c.one c.on_one) ∙ h.for_one;
            for_two = sym (q h.two c.two c.on_two) ∙ h.for_two;
          },
          c.on_one,
          c.on_two,
        )

    together_order : (s t : List A) → Permᴰ s t → So (join user together f g s) → So (join user together f g t)
    together_order s t d h = together_in user f g (halves_order d (together_out user f g s h)).0

    apart_order : (s t : List A) → Permᴰ s t → So (join user apart f g s) → So (join user apart f g t)
    apart_order s t d h =
        let (m, c) = apart_out user f g s h in
        let (k, on_one, on_two) = halves_order d m in
        apart_in user f g k (sym (disjoint_order on_one on_two) ∙ c)

  join_order : (op : Op) (f g : Judgement A) → Orderless f → Orderless g → Orderless (join user op f g)
  join_order either f g p q s t d = ap₂ ◌||◌ (p s t d) (q s t d)
  join_order both f g p q s t d = ap₂ ◌&&◌ (p s t d) (q s t d)
  join_order together f g p q s t d =
      same_test (join user together f g s) (join user together f g t) (together_order f g p q s t d) (together_order f g p q t s (Permᴰ.symm d))
  join_order apart f g p q s t d =
      same_test (join user apart f g s) (join user apart f g t) (apart_order f g p q s t d) (apart_order f g p q t s (Permᴰ.symm d))

  module _ (met : Term → ℕ → A → Bool) (e : Bool) where
    table_order : (φ : Term) (i : ℕ) → Orderless (table user met e φ i)
    unfolding table
    table_order everyone i s t d = single_order (met everyone i) e d
    table_order (role r) i s t d = single_order (met (role r) i) e d
    table_order (set m) i s t d = single_order (met (set m) i) e d
    table_order (¬ᵗ φ) i s t d = single_order (met (¬ᵗ φ) i) e d
    table_order (φ ⁺) i s t d = several_order (met φ (1 + i)) e d
    table_order (bin op φ ψ) i s t d =
        ap₂ (cond (unit (bin op φ ψ))) (single_order (met (bin op φ ψ) i) e d)
        (join_order op (table user met e φ (1 + i)) (table user met e ψ (1 + i + size φ)) (table_order φ (1 + i)) (table_order ψ (1 + i + size φ)) s t d)

pub order_plays_no_part : OrderPlaysNoPart
order_plays_no_part A user met e φ i s t p = ∥∥₁_elim p (Bool-set (table user met e φ i s) (table user met e φ i t)) (table_order user met e φ i s t)

-- one element moved to the end
pub perm_last : {A : Type 0} (a : A) (l m : List A) → Perm (l ++ (a ∷ m)) (l ++ (m ++ (a ∷ [])))
perm_last a l m = Perm.append_left l (Perm.symm (perm_append_singleton a m))
