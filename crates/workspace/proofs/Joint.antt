-- Together and apart over a set's parts: a proper part for the left side with the rest for the right side, or, where the empty set
-- counts, the whole set for one side.
use mathlib.Core.Path.{◌≡◌, refl, sym, ◌∙◌, ap, ap₂}
use mathlib.Core.Bool.{Bool, true, false, So, ◌&&◌, ◌||◌, true≢false, false≢true}
use mathlib.Core.List.{List, [], ◌∷◌}
use mathlib.Core.Logic.{◌⊎◌, inl, inr, ⊎_elim}
use Prim.Native.Nat.{ℕ, ◌-◌, ◌<◌}
use native.Mathlib.Nat.{eq-or-lt_of_le, eq-zero-or-pos}
use native.Mathlib.Omega.{arith}
use lib.Bits.{bit_and}
use lib.Dec.{eqb}
use Rattle.soda.specs.Bits.{bit}
use Rattle.soda.specs.Lists.{Split, nil, left}
use Rattle.soda.specs.Terms.{Op, either, both, together, apart, unit_op}
use Rattle.soda.specs.Tables.{acts, disjoint, join}
use Rattle.soda.proofs.Bools.{same_test, and_split, and-join, or_split, or_left, or_right, so_eq, eq_so}
use Rattle.soda.proofs.Bits.{bit_of_zero}
use Rattle.soda.proofs.Splits.{split_swap}
use Rattle.soda.proofs.Tables.{Judgement, Halves, together_in, together_out, apart_in, apart_out}
use Rattle.soda.proofs.Joins.{disjoint_in, disjoint_out}
use Rattle.rows.proofs.Digits.{bit-and, no_bits}
use Rattle.workspace.specs.Workspace.{select}
use Rattle.workspace.specs.Private.{Part}
use Rattle.workspace.proofs.Submask.{within_le}
use Rattle.workspace.proofs.Select.{select-none, cut, Cut, uncut}

module _ {A : Type 0} (user : A → ℕ) where
  -- two lists share no user exactly when the masks of their users share no digit
  pub disjoint_masks : (x y : ℕ) (a b : List A) → ((u : ℕ) → bit u x ≡ acts user u a) → ((u : ℕ) → bit u y ≡ acts user u b)
      → eqb (bit_and x y) 0 ≡ disjoint user a b
  disjoint_masks x y a b p q = same_test (eqb (bit_and x y) 0) (disjoint user a b)
      (λ e. disjoint_in user a b (λ u s t. true≢false (sym (and-join (bit u x) (bit u y) (p u ∙ s) (q u ∙ t)) ∙ sym (bit-and u x y) ∙ ap (bit u) (so_eq (bit_and x y) 0 e) ∙ bit_of_zero u)))
      (λ d. eq_so (bit_and x y) 0 (no_bits (bit_and x y) (λ u o. let k = and_split (bit u x) (bit u y) (sym (bit-and u x y) ∙ o) in
      disjoint_out user a b d u (sym (p u) ∙ k.0) (sym (q u) ∙ k.1))))

  -- what the operator asks of the users of the two sides
  abbrev pub agree : Op → List A → List A → Bool
  agree either one two = true
  agree both one two = true
  agree together one two = true
  agree apart one two = disjoint user one two

  agree_left : (op : Op) (l : List A) → So (agree op l [])
  agree_left either l = refl
  agree_left both l = refl
  agree_left together l = refl
  agree_left apart l = disjoint_in user l [] (λ u p q. false≢true q)

  agree_right : (op : Op) (l : List A) → So (agree op [] l)
  agree_right either l = refl
  agree_right both l = refl
  agree_right together l = refl
  agree_right apart l = refl

  split_whole : (l : List A) → Split l l []
  split_whole [] = nil
  split_whole (a ∷ l) = left (split_whole l)

  module _ (f g : Judgement A) where
    joint_in : (op : Op) → unit_op op ≡ false → {l : List A} (h : Halves user f g l) → So (agree op h.one h.two) → So (join user op f g l)
    joint_in either j h d = absurd (true≢false j)
    joint_in both j h d = absurd (true≢false j)
    joint_in together j h d = together_in user f g h
    joint_in apart j h d = apart_in user f g h d

    joint_out : (op : Op) → unit_op op ≡ false → (l : List A) → So (join user op f g l) → (h : Halves user f g l) × So (agree op h.one h.two)
    joint_out either j l o = absurd (true≢false j)
    joint_out both j l o = absurd (true≢false j)
    joint_out together j l o = (together_out user f g l o, refl)
    joint_out apart j l o = apart_out user f g l o

    -- the part x of s for the left side, and the rest for the right side
    abbrev pub parted : Op → List A → ℕ → ℕ → Bool
    parted op l s x = f (select x l) && (g (select (s - x) l) && agree op (select x l) (select (s - x) l))

    -- what one proper part shows
    pub joint_part : (op : Op) → unit_op op ≡ false → (l : List A) (s x : ℕ) → Part x s → So (parted op l s x) → So (join user op f g (select s l))
    joint_part op j l s x p o =
        let m = and_split (f (select x l)) (g (select (s - x) l) && agree op (select x l) (select (s - x) l)) o in
        let n = and_split (g (select (s - x) l)) (agree op (select x l) (select (s - x) l)) m.1 in
        joint_in op j (record { one = select x l; two = select (s - x) l; split = cut l s x p.within; for_one = m.0; for_two = n.0 }) n.1

    pub joint_law : (op : Op) → unit_op op ≡ false → (e : Bool) → f [] ≡ e → g [] ≡ e → (l : List A) (s : ℕ) (found : Bool)
        → (So found → (x : ℕ) × Part x s × So (parted op l s x)) → ((x : ℕ) → Part x s → So (parted op l s x) → So found)
        → (found || (e && (f (select s l) || g (select s l)))) ≡ join user op f g (select s l)
    joint_law op j e fe ge l s found out into = same_test (found || (e && (f S || g S))) (join user op f g S)
        (λ o. ⊎_elim (λ k. let w = out k in joint_part op j l s w.0 w.1 w.2) (λ k. let m = and_split e (f S || g S) k in ⊎_elim (for_left m.0) (for_right m.0) (or_split (f S) (g S) m.1)) (or_split found (e && (f S || g S)) o))
        (λ o. let (h, d) = joint_out op j S o in back h d (uncut l s h.split))
      where
        S : List A
        S = select s l

        for_left : So e → So (f S) → So (join user op f g S)
        for_left c o = joint_in op j (record { one = S; two = []; split = split_whole S; for_one = o; for_two = ge ∙ c }) (agree_left op S)

        for_right : So e → So (g S) → So (join user op f g S)
        for_right c o = joint_in op j (record { one = []; two = S; split = split_swap (split_whole S); for_one = fe ∙ c; for_two = o }) (agree_right op S)

        own : So e → So (f S || g S) → So (found || (e && (f S || g S)))
        own c o = or_right found (e && (f S || g S)) (and-join e (f S || g S) c o)

        back : (h : Halves user f g S) → So (agree op h.one h.two) → Cut l s h.one h.two → So (found || (e && (f S || g S)))
        back h d c = go (eq-zero-or-pos c.part) (eq-or-lt_of_le (within_le c.part s c.within))
          where
            go : (c.part ≡ 0) ⊎ (0 < c.part) → (c.part ≡ s) ⊎ (c.part < s) → So (found || (e && (f S || g S)))
            go (inl z) t =
                let n : s - c.part ≡ s = omega arith in
                own (sym fe ∙ sym (ap f (c.is_one ∙ ap (λ k. select k l) z ∙ select-none l)) ∙ h.for_one)
                (or_right (f S) (g S) (sym (ap g (c.is_two ∙ ap (λ k. select k l) n)) ∙ h.for_two))
            go (inr z) (inl t) =
                let n : s - c.part ≡ 0 = omega arith in
                own (sym ge ∙ sym (ap g (c.is_two ∙ ap (λ k. select k l) n ∙ select-none l)) ∙ h.for_two)
                (or_left (f S) (g S) (sym (ap f (c.is_one ∙ ap (λ k. select k l) t)) ∙ h.for_one))
            go (inr z) (inr t) =
                or_left found (e && (f S || g S)) (into c.part (record { some = z; less = t; within = c.within })
                (and-join (f (select c.part l)) (g (select (s - c.part) l) && agree op (select c.part l) (select (s - c.part) l)) (sym (ap f c.is_one) ∙ h.for_one)
                (and-join (g (select (s - c.part) l)) (agree op (select c.part l) (select (s - c.part) l)) (sym (ap g c.is_two) ∙ h.for_two)
                (sym (ap₂ (agree op) c.is_one c.is_two) ∙ d))))
