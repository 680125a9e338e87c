-- The sides of an operator may change places, three may be regrouped, and all but either spread over either: none of it changes a judgement.
use mathlib.Core.Path.{◌≡◌, refl, sym, ◌∙◌, ap, ap₂, fun_ext}
use mathlib.Core.Logic.{◌⊎◌, inl, inr}
use mathlib.Core.Bool.{Bool, true, false, So, not, ◌&&◌, ◌||◌, and_comm, and_assoc, and-or_distrib_left, or_comm, or_assoc, false≢true}
use mathlib.Core.List.{List, [], ◌∷◌}
use Prim.Native.Nat.{ℕ}
use lib.Dec.{eqb}
use Rattle.soda.specs.Lists.{any, splits, Split, nil, left, right}
use Rattle.soda.specs.Terms.{Op, either, both, together, apart, Term, bin}
use Rattle.soda.specs.Roles.{meets_op, meets_not}
use Rattle.soda.specs.Tables.{single, several, acts, disjoint, join, table, Execution, met_by, judge}
use Rattle.soda.specs.Rewriting.{spreads, Rewrite, RuleSteps}
use Rattle.soda.specs.EqualForms.{StepsKeepJudgement}
use Rattle.soda.specs.Spreading.{RewriteKeepsJudgement}
use Rattle.soda.proofs.Bools.{never, and_split, and-join, or_split, or_left, or_right, same_test, not_so, so_eq, eq_so}
use Rattle.soda.proofs.Splits.{split_swap, split_assoc}
use Rattle.soda.proofs.Rewriting.{steps_are-rewrites, rewrites_keep}
use Rattle.soda.proofs.Tables.{Judgement, together_out, together_in, apart_out, apart_in, who, judge-bin}

-- ── any of two tests ──
or_middle : (a b c d : Bool) → ((a || b) || (c || d)) ≡ ((a || c) || (b || d))
or_middle true b c d = refl
or_middle false true true d = refl
or_middle false true false d = refl
or_middle false false c d = refl

any_or : {A : Type 0} (f g : A → Bool) (l : List A) → any (λ x. f x || g x) l ≡ (any f l || any g l)
any_or f g [] = refl
any_or f g (x ∷ l) = ap (λ (b : Bool). (f x || g x) || b) (any_or f g l) ∙ or_middle (f x) (g x) (any f l) (any g l)

-- ── who acts ──
module _ {A : Type 0} (user : A → ℕ) where
  -- who acts in a list acts in one of its parts, and the other way round
  pub acts-left : (u : ℕ) {s l r : List A} → Split s l r → So (acts user u l) → So (acts user u s)
  acts-left u nil x = x
  acts-left u (left {x = a} {s = s} {l = l} p) x = go (or_split (eqb (user a) u) (acts user u l) x) (acts-left u p)
    where
      go : So (eqb (user a) u) ⊎ So (acts user u l) → (So (acts user u l) → So (acts user u s)) → So (eqb (user a) u || acts user u s)
      go (inl y) f = or_left (eqb (user a) u) (acts user u s) y
      go (inr y) f = or_right (eqb (user a) u) (acts user u s) (f y)
  acts-left u (right {x = a} {s = s} p) x = or_right (eqb (user a) u) (acts user u s) (acts-left u p x)

  acts-right : (u : ℕ) {s l r : List A} → Split s l r → So (acts user u r) → So (acts user u s)
  acts-right u p x = acts-left u (split_swap p) x

  acts-sides : (u : ℕ) {s l r : List A} → Split s l r → So (acts user u s) → So (acts user u l) ⊎ So (acts user u r)
  acts-sides u nil x = inl x
  acts-sides u (left {x = a} {s = s} {l = l} {r = r} p) x = go (or_split (eqb (user a) u) (acts user u s) x) (acts-sides u p)
    where
      go : So (eqb (user a) u) ⊎ So (acts user u s) → (So (acts user u s) → So (acts user u l) ⊎ So (acts user u r)) → So (eqb (user a) u || acts user u l) ⊎ So (acts user u r)
      go (inl y) f = inl (or_left (eqb (user a) u) (acts user u l) y)
      go (inr y) f = elim (f y) [ inl z ↦ inl (or_right (eqb (user a) u) (acts user u l) z) | inr z ↦ inr z ]
  acts-sides u (right {x = a} {s = s} {l = l} {r = r} p) x = go (or_split (eqb (user a) u) (acts user u s) x) (acts-sides u p)
    where
      go : So (eqb (user a) u) ⊎ So (acts user u s) → (So (acts user u s) → So (acts user u l) ⊎ So (acts user u r)) → So (acts user u l) ⊎ So (eqb (user a) u || acts user u r)
      go (inl y) f = inr (or_left (eqb (user a) u) (acts user u r) y)
      go (inr y) f = elim (f y) [ inl z ↦ inl z | inr z ↦ inr (or_right (eqb (user a) u) (acts user u r) z) ]

  -- no user acts in both
  pub disjoint_in : (s t : List A) → ((u : ℕ) → So (acts user u s) → So (acts user u t) → ⊥) → So (disjoint user s t)
  disjoint_in [] t h = refl
  disjoint_in (a ∷ s) t h = and-join (not (acts user (user a) t)) (disjoint user s t)
      (ap not (not_so (acts user (user a) t) (h (user a) (or_left (eqb (user a) (user a)) (acts user (user a) s) (eq_so (user a) (user a) refl)))))
      (disjoint_in s t (λ u x. h u (or_right (eqb (user a) u) (acts user u s) x)))

  pub disjoint_out : (s t : List A) → So (disjoint user s t) → (u : ℕ) → So (acts user u s) → So (acts user u t) → ⊥
  disjoint_out [] t h u x y = false≢true x
  disjoint_out (a ∷ s) t h u x y =
      let k = and_split (not (acts user (user a) t)) (disjoint user s t) h in
      go (or_split (eqb (user a) u) (acts user u s) x) k.0 (disjoint_out s t k.1 u)
    where
      go : So (eqb (user a) u) ⊎ So (acts user u s) → So (not (acts user (user a) t)) → (So (acts user u s) → So (acts user u t) → ⊥) → ⊥
      go (inl e) n f = false≢true (sym (ap not (ap (λ v. acts user v t) (so_eq (user a) u e) ∙ y)) ∙ n)
      go (inr z) n f = f z y

  disjoint_swap : (s t : List A) → So (disjoint user s t) → So (disjoint user t s)
  disjoint_swap s t h = disjoint_in t s (λ u x y. disjoint_out s t h u y x)

  -- ── joining two sides ──
  swap_together : (f g : Judgement A) (s : List A) → So (join user together f g s) → So (join user together g f s)
  swap_together f g s h = let q = together_out user f g s h in
      together_in user g f (record { one = q.two; two = q.one; split = split_swap q.split; for_one = q.for_two; for_two = q.for_one })

  swap_apart : (f g : Judgement A) (s : List A) → So (join user apart f g s) → So (join user apart g f s)
  swap_apart f g s h = let (q, d) = apart_out user f g s h in
      apart_in user g f (record { one = q.two; two = q.one; split = split_swap q.split; for_one = q.for_two; for_two = q.for_one })
      (disjoint_swap q.one q.two d)

  join_comm : (op : Op) (f g : Judgement A) (s : List A) → join user op f g s ≡ join user op g f s
  join_comm either f g s = or_comm (f s) (g s)
  join_comm both f g s = and_comm (f s) (g s)
  join_comm together f g s = same_test (join user together f g s) (join user together g f s) (swap_together f g s) (swap_together g f s)
  join_comm apart f g s = same_test (join user apart f g s) (join user apart g f s) (swap_apart f g s) (swap_apart g f s)

  regroup-together : (f g h : Judgement A) (s : List A) → So (join user together (join user together f g) h s) → So (join user together f (join user together g h) s)
  regroup-together f g h s x =
      let q = together_out user (join user together f g) h s x in
      let m = together_out user f g q.one q.for_one in
      let (n, y, z) = split_assoc q.split m.split in
      together_in user f (join user together g h) (record {
        one = m.one;
        two = n;
        split = y;
        for_one = m.for_one;
        for_two = together_in user g h (record { one = m.two; two = q.two; split = z; for_one = m.for_two; for_two = q.for_two });
      })

  regroup-apart : (f g h : Judgement A) (s : List A) → So (join user apart (join user apart f g) h s) → So (join user apart f (join user apart g h) s)
  regroup-apart f g h s x =
      let (q, d) = apart_out user (join user apart f g) h s x in
      let (m, c) = apart_out user f g q.one q.for_one in
      let (n, y, z) = split_assoc q.split m.split in
      let c₁ : So (disjoint user m.one n) = disjoint_in m.one n (λ u v w. elim (acts-sides u z w)
      [ inl k ↦ disjoint_out m.one m.two c u v k | inr k ↦ disjoint_out q.one q.two d u (acts-left u m.split v) k ]) in
      let c₂ : So (disjoint user m.two q.two) = disjoint_in m.two q.two (λ u v w. disjoint_out q.one q.two d u (acts-right u m.split v) w) in
      apart_in user f (join user apart g h) (record {
        one = m.one;
        two = n;
        split = y;
        for_one = m.for_one;
        for_two = apart_in user g h (record { one = m.two; two = q.two; split = z; for_one = m.for_two; for_two = q.for_two }) c₂;
      }) c₁

  -- where regrouping goes one way for any three, it goes the other way too
  module _ (op : Op) (go : (f g h : Judgement A) (s : List A) → So (join user op (join user op f g) h s) → So (join user op f (join user op g h) s)) where
    regroup-both : (f g h : Judgement A) (s : List A) → join user op (join user op f g) h s ≡ join user op f (join user op g h) s
    regroup-both f g h s = same_test (join user op (join user op f g) h s) (join user op f (join user op g h) s) (go f g h s)
        (λ e. sym (turned f g h) ∙ go h g f s (sym (turned h g f) ∙ e))
      where
        -- both sides exchanged, and the inner two
        turned : (x y z : Judgement A) → join user op z (join user op y x) s ≡ join user op (join user op x y) z s
        turned x y z = join_comm op z (join user op y x) s ∙ ap (λ (k : Judgement A). join user op k z s) (fun_ext (join_comm op y x))

  join_assoc : (op : Op) (f g h : Judgement A) (s : List A) → join user op (join user op f g) h s ≡ join user op f (join user op g h) s
  join_assoc either f g h s = or_assoc (f s) (g s) (h s)
  join_assoc both f g h s = and_assoc (f s) (g s) (h s)
  join_assoc together f g h s = regroup-both together regroup-together f g h s
  join_assoc apart f g h s = regroup-both apart regroup-apart f g h s

  -- ── spreading over either ──
  pub join-spread : (op : Op) (f g h : Judgement A) (s : List A) → So (spreads op)
      → join user op f (join user either g h) s ≡ join user either (join user op f g) (join user op f h) s
  join-spread either f g h s e = never e
  join-spread both f g h s e = and-or_distrib_left (f s) (g s) (h s)
  join-spread together f g h s e = ap (λ (t : List A × List A → Bool). any t (splits s)) (fun_ext (λ p. and-or_distrib_left (f p.0) (g p.1) (h p.1)))
      ∙ any_or (λ p. f p.0 && g p.1) (λ p. f p.0 && h p.1) (splits s)
  join-spread apart f g h s e = ap (λ (t : List A × List A → Bool). any t (splits s))
      (fun_ext (λ p. ap (λ (b : Bool). disjoint user p.0 p.1 && b) (and-or_distrib_left (f p.0) (g p.1) (h p.1))
      ∙ and-or_distrib_left (disjoint user p.0 p.1) (f p.0 && g p.1) (f p.0 && h p.1)))
      ∙ any_or (λ p. disjoint user p.0 p.1 && (f p.0 && g p.1)) (λ p. disjoint user p.0 p.1 && (f p.0 && h p.1)) (splits s)

-- ── terms ──
meets_op_comm : (op : Op) (x y : Bool) → meets_op op x y ≡ meets_op op y x
meets_op_comm either x y = or_comm x y
meets_op_comm both x y = and_comm x y
meets_op_comm together x y = refl
meets_op_comm apart x y = refl

meets_op_assoc : (op : Op) (x y z : Bool) → meets_op op (meets_op op x y) z ≡ meets_op op x (meets_op op y z)
meets_op_assoc either x y z = or_assoc x y z
meets_op_assoc both x y z = and_assoc x y z
meets_op_assoc together x y z = refl
meets_op_assoc apart x y z = refl

meets_op-spread : (op : Op) (x y z : Bool) → So (spreads op) → meets_op op x (y || z) ≡ (meets_op op x y || meets_op op x z)
meets_op-spread either x y z e = never e
meets_op-spread both x y z e = and-or_distrib_left x y z
meets_op-spread together x y z e = refl
meets_op-spread apart x y z e = refl

-- what a term means in both columns' rows: when it is met, and its judgement; the row of a not or plus goes by the first
abbrev meaning : Bool → Term → (Execution → Bool) × Judgement Execution
meaning e φ = (met_by φ, judge e φ)

module _ (e : Bool) where
  bin_law : (op : Op) (a b : Term) → judge e (bin op a b) ≡ join who op (judge e a) (judge e b)
  bin_law op a b = fun_ext (judge-bin e op a b)

  judge-regroup : (op : Op) (a b c : Term) → judge e (bin op (bin op a b) c) ≡ judge e (bin op a (bin op b c))
  judge-regroup op a b c =
      bin_law op (bin op a b) c ∙ ap (λ (f : Judgement Execution). join who op f (judge e c)) (bin_law op a b)
      ∙ fun_ext (join_assoc who op (judge e a) (judge e b) (judge e c))
      ∙ ap (λ (f : Judgement Execution). join who op (judge e a) f) (sym (bin_law op b c)) ∙ sym (bin_law op a (bin op b c))

  judge_under : (op : Op) (a b c : Term) → judge e a ≡ judge e b → judge e (bin op a c) ≡ judge e (bin op b c)
  judge_under op a b c h = bin_law op a c ∙ ap (λ (f : Judgement Execution). join who op f (judge e c)) h ∙ sym (bin_law op b c)

  judge-spread : (op : Op) (a b c : Term) → So (spreads op) → judge e (bin op a (bin either b c)) ≡ judge e (bin either (bin op a b) (bin op a c))
  judge-spread op a b c h =
      bin_law op a (bin either b c) ∙ ap (λ (f : Judgement Execution). join who op (judge e a) f) (bin_law either b c)
      ∙ fun_ext (λ s. join-spread who op (judge e a) (judge e b) (judge e c) s h)
      ∙ sym (ap₂ (λ (f g : Judgement Execution). join who either f g) (bin_law op a b) (bin_law op a c)) ∙ sym (bin_law either (bin op a b) (bin op a c))

  rewrites_meaning : {φ ψ : Term} → RuleSteps Rewrite φ ψ → meaning e φ ≡ meaning e ψ
  unfolding table
  rewrites_meaning = rewrites_keep (meaning e)
      (λ op a b i. (
        λ x. meets_op_comm op (met_by a x) (met_by b x) i,
        (bin_law op a b ∙ fun_ext (join_comm who op (judge e a) (judge e b)) ∙ sym (bin_law op b a)) i,
      ))
      (λ op a b c i. (λ x. meets_op_assoc op (met_by a x) (met_by b x) (met_by c x) i, judge-regroup op a b c i))
      (λ a b h i. (λ x. meets_not x.held ((h i).0 x), single e (λ x. meets_not x.held ((h i).0 x))))
      (λ a b h i. (λ x. false, several e (h i).0))
      (λ op a b c h i. (λ x. meets_op op ((h i).0 x) (met_by c x), judge_under op a b c (λ j. (h j).1) i))
      (λ op a b c h i. (λ x. meets_op-spread op (met_by a x) (met_by b x) (met_by c x) h i, judge-spread op a b c h i))

pub rewrites_keep_judgement : RewriteKeepsJudgement
rewrites_keep_judgement φ ψ p e = λ i. (rewrites_meaning e p i).1

pub steps_keep_judgement : StepsKeepJudgement
steps_keep_judgement φ ψ p = rewrites_keep_judgement φ ψ (steps_are-rewrites p)
