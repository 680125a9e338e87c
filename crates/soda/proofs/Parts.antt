-- A part of a possible list of actions is possible, and what satisfies is possible. Both hold for whatever is kept of an action.
use mathlib.Core.Path.{◌≡◌, refl}
use mathlib.Core.Logic.{inl, inr}
use mathlib.Core.Bool.{Bool, true, false, So, cond}
use mathlib.Core.List.{List, [], ◌∷◌}
use Prim.Native.Nat.{ℕ, ◌+◌}
use Rattle.soda.specs.Lists.{Split, nil, left, right}
use Rattle.soda.specs.Terms.{Op, either, both, together, apart, everyone, role, set, ¬ᵗ◌, ◌⁺, bin, unit, size}
use Rattle.soda.specs.Tables.{single, several, join, table}
use Rattle.soda.specs.Accuracy.{PartIsPossible, SatisfiedIsPossible}
use Rattle.soda.proofs.Bools.{never, and_split, and-join, or_split, or_left, or_right}
use Rattle.soda.proofs.Splits.{all_part, cross}
use Rattle.soda.proofs.Tables.{several-all, all-several, Judgement, together_out, together_in, apart_out, apart_in}
use Rattle.soda.proofs.Joins.{acts-left, disjoint_in, disjoint_out}

module _ {A : Type 0} where
  part_nil : {l r : List A} → Split [] l r → l ≡ []
  part_nil nil = refl

  single_part : (f : A → Bool) {s l r : List A} → Split s l r → So (single true f s) → So (single true f l)
  single_part f nil h = refl
  single_part f (left {x = x} {s = []} p) h = rw (part_nil p) h
  single_part f (left {x = x} {s = y ∷ s} p) h = never h
  single_part f (right {x = x} {s = []} p) h = rw (part_nil p) refl
  single_part f (right {x = x} {s = y ∷ s} p) h = never h

  several_part : (f : A → Bool) {s l r : List A} → Split s l r → So (several true f s) → So (several true f l)
  several_part f {s} {l} p h = all-several f l (all_part f p (several-all f true s h))

  single-possible : (f : A → Bool) (s : List A) → So (single false f s) → So (single true f s)
  single-possible f [] h = refl
  single-possible f (a ∷ []) h = h
  single-possible f (a ∷ b ∷ s) h = h

  several-possible : (f : A → Bool) (s : List A) → So (several false f s) → So (several true f s)
  several-possible f s h = all-several f s (several-all f false s h)

module _ {A : Type 0} (user : A → ℕ) where
  -- one list judged by f and g, another by f' and g', where the sides' parts carry over
  join-possible : (op : Op) (f g f' g' : Judgement A) → ((s : List A) → So (f s) → So (f' s)) → ((s : List A) → So (g s) → So (g' s))
      → (s : List A) → So (join user op f g s) → So (join user op f' g' s)
  join-possible either f g f' g' p q s h = elim (or_split (f s) (g s) h) [ inl x ↦ or_left (f' s) (g' s) (p s x) | inr y ↦ or_right (f' s) (g' s) (q s y) ]
  join-possible both f g f' g' p q s h = let k = and_split (f s) (g s) h in and-join (f' s) (g' s) (p s k.0) (q s k.1)
  join-possible together f g f' g' p q s h = let m = together_out user f g s h in
      together_in user f' g' (record { one = m.one; two = m.two; split = m.split; for_one = p m.one m.for_one; for_two = q m.two m.for_two })
  join-possible apart f g f' g' p q s h = let (m, d) = apart_out user f g s h in
      apart_in user f' g' (record { one = m.one; two = m.two; split = m.split; for_one = p m.one m.for_one; for_two = q m.two m.for_two }) d

  -- a judgement that passes to parts
  abbrev Passes : Judgement A → Type 0
  Passes f = (s l r : List A) → Split s l r → So (f s) → So (f l)

  join_part : (op : Op) (f g : Judgement A) → Passes f → Passes g → Passes (join user op f g)
  join_part either f g p q s l r x h = elim (or_split (f s) (g s) h) [ inl y ↦ or_left (f l) (g l) (p s l r x y) | inr y ↦ or_right (f l) (g l) (q s l r x y) ]
  join_part both f g p q s l r x h = let k = and_split (f s) (g s) h in and-join (f l) (g l) (p s l r x k.0) (q s l r x k.1)
  join_part together f g p q s l r x h =
      let m = together_out user f g s h in
      let c = cross x m.split in
      together_in user f g (record { one = c.l₁; two = c.l₂; split = c.on_left; for_one = p m.one c.l₁ c.r₁ c.on_one m.for_one; for_two = q m.two c.l₂ c.r₂ c.on_two m.for_two })
  join_part apart f g p q s l r x h =
      let (m, d) = apart_out user f g s h in
      let c = cross x m.split in
      apart_in user f g (record { one = c.l₁; two = c.l₂; split = c.on_left; for_one = p m.one c.l₁ c.r₁ c.on_one m.for_one; for_two = q m.two c.l₂ c.r₂ c.on_two m.for_two })
      (disjoint_in user c.l₁ c.l₂ (λ u y z. disjoint_out user m.one m.two d u (acts-left user u c.on_one y) (acts-left user u c.on_two z)))

pub part_is-possible : PartIsPossible
unfolding table
part_is-possible A user met everyone i s l r x h = single_part (met everyone i) x h
part_is-possible A user met (role n) i s l r x h = single_part (met (role n) i) x h
part_is-possible A user met (set m) i s l r x h = single_part (met (set m) i) x h
part_is-possible A user met (¬ᵗ φ) i s l r x h = single_part (met (¬ᵗ φ) i) x h
part_is-possible A user met (φ ⁺) i s l r x h = several_part (met φ (1 + i)) x h
part_is-possible A user met (bin op φ ψ) i s l r x h =
    go (unit (bin op φ ψ)) (part_is-possible A user met φ (1 + i)) (part_is-possible A user met ψ (1 + i + size φ)) h
  where
    F : Judgement A
    F = table user met true φ (1 + i)

    G : Judgement A
    G = table user met true ψ (1 + i + size φ)

    go : (b : Bool) → Passes user F → Passes user G
        → So (cond b (single true (met (bin op φ ψ) i) s) (join user op F G s)) → So (cond b (single true (met (bin op φ ψ) i) l) (join user op F G l))
    go true p q k = single_part (met (bin op φ ψ) i) x k
    go false p q k = join_part user op F G p q s l r x k

pub satisfied-is-possible : SatisfiedIsPossible
unfolding table
satisfied-is-possible A user met everyone i s h = single-possible (met everyone i) s h
satisfied-is-possible A user met (role n) i s h = single-possible (met (role n) i) s h
satisfied-is-possible A user met (set m) i s h = single-possible (met (set m) i) s h
satisfied-is-possible A user met (¬ᵗ φ) i s h = single-possible (met (¬ᵗ φ) i) s h
satisfied-is-possible A user met (φ ⁺) i s h = several-possible (met φ (1 + i)) s h
satisfied-is-possible A user met (bin op φ ψ) i s h =
    go (unit (bin op φ ψ)) (satisfied-is-possible A user met φ (1 + i)) (satisfied-is-possible A user met ψ (1 + i + size φ)) h
  where
    F : Bool → Judgement A
    F e = table user met e φ (1 + i)

    G : Bool → Judgement A
    G e = table user met e ψ (1 + i + size φ)

    go : (b : Bool) → ((m : List A) → So (F false m) → So (F true m)) → ((m : List A) → So (G false m) → So (G true m))
        → So (cond b (single false (met (bin op φ ψ) i) s) (join user op (F false) (G false) s))
        → So (cond b (single true (met (bin op φ ψ) i) s) (join user op (F true) (G true) s))
    go true p q k = single-possible (met (bin op φ ψ) i) s k
    go false p q k = join-possible user op (F false) (G false) (F true) (G true) p q s k
