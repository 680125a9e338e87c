-- Where roles do not change, `satisfied` is multiset satisfaction (Definition 3): a multiset of users is divided in two exactly as
-- a list of them falls into two.
use mathlib.Core.Path.{◌≡◌, refl, sym, ap, ap₂, subst, subst₂, ◌∙◌, fun_ext}
use mathlib.Core.Logic.{◌⊎◌, inl, inr, ◌↔◌}
use mathlib.Core.Bool.{Bool, true, false, So, not, ◌||◌, cond, false≢true}
use mathlib.Core.List.{List, [], ◌∷◌, map}
use Prim.Native.Nat.{ℕ, zero, suc, ◌+◌, ◌-◌, ◌≤◌, min}
use native.Mathlib.Omega.{arith}
use lib.Dec.{eqb}
use Rattle.soda.specs.Bits.{bit}
use Rattle.soda.specs.Lists.{all, Split, nil, left, right}
use Rattle.soda.specs.Terms.{Op, either, both, together, apart, Term, everyone, role, set, ¬ᵗ◌, ◌⁺, bin, unit, well_formed}
use Rattle.soda.specs.Roles.{UA, roles, holds_role, meets}
use Rattle.soda.specs.Tables.{single, several, acts, disjoint, join, Execution, met_by, judge}
use Rattle.soda.specs.Multisets.{Multiset, ∅ᵐ, singleton, multiset, ◌⊎ᵐ◌, ◌∩ᵐ◌, SatM, r1, r2, r3, r4, r5, r6, r7, r8, r9, r10, r11}
use Rattle.soda.specs.Traces.{execution}
use Rattle.soda.specs.Accuracy.{Rule4, MeetsIsSingleton}
use Rattle.soda.proofs.Bools.{never, and_split, and-join, or_split, or_left, or_right, not_so, so_eq, eq_so}
use Rattle.soda.proofs.Roles.{some-role}
use Rattle.soda.proofs.Splits.{all_parts, split_map, unmap}
use Rattle.soda.proofs.Tables.{Judgement, together_out, together_in, apart_out, apart_in, who, judge-unit, judge-plus, judge-bin}
use Rattle.soda.proofs.Joins.{disjoint_in, disjoint_out}

-- ── one user ──
singleton_at : (u : ℕ) → singleton u u ≡ 1
singleton_at u = ap (λ b. cond b 1 0) (eq_so u u refl)

pub singleton-is : (u p : ℕ) → 1 ≤ singleton u p → u ≡ p
singleton-is u p h = go (eqb u p) refl h
  where
    go : (b : Bool) → eqb u p ≡ b → 1 ≤ cond {A = ℕ} b 1 0 → u ≡ p
    go true e k = so_eq u p e
    go false e k = omega arith

singleton_inj : (u p : ℕ) → singleton u ≡ singleton p → u ≡ p
singleton_inj u p e = let k : singleton u p ≡ 1 = (λ i. e i p) ∙ singleton_at p in singleton-is u p (omega arith)

-- for a unit term, `meets` is Definition 3 at a multiset of one
meets-singleton : (ua : UA) (u : ℕ) (φ : Term) → So (unit φ) → So (meets φ u (roles ua u)) → SatM ua (singleton u) φ
meets-singleton ua u everyone v m = r1 u m
meets-singleton ua u (role r) v m = r2 u r m
meets-singleton ua u (set x) v m = let h = and_split (bit u x) (holds_role (roles ua u)) m in r3 u x h.0 h.1
meets-singleton ua u (¬ᵗ φ) v m = let h = and_split (holds_role (roles ua u)) (not (meets φ u (roles ua u))) m in r4 u v h.0 h.1
meets-singleton ua u (φ ⁺) v m = never v
meets-singleton ua u (bin either φ ψ) v m =
    let w = and_split (unit φ) (unit ψ) v in
    elim (or_split (meets φ u (roles ua u)) (meets ψ u (roles ua u)) m)
    [ inl x ↦ r7 (meets-singleton ua u φ w.0 x) | inr y ↦ r8 (meets-singleton ua u ψ w.1 y) ]
meets-singleton ua u (bin both φ ψ) v m =
    let w = and_split (unit φ) (unit ψ) v in
    let h = and_split (meets φ u (roles ua u)) (meets ψ u (roles ua u)) m in
    r9 (meets-singleton ua u φ w.0 h.0) (meets-singleton ua u ψ w.1 h.1)
meets-singleton ua u (bin together φ ψ) v m = never v
meets-singleton ua u (bin apart φ ψ) v m = never v

-- .. and the other way round
singleton-meets : {ua : UA} {M : Multiset} {φ : Term} → SatM ua M φ → So (unit φ) → (p : ℕ) → M ≡ singleton p → So (meets φ p (roles ua p))
singleton-meets {ua} (r1 u h) v p e = subst (λ x. So (holds_role (roles ua x))) (singleton_inj u p e) h
singleton-meets {ua} (r2 u r h) v p e = subst (λ x. So (bit r (roles ua x))) (singleton_inj u p e) h
singleton-meets {ua} (r3 u m h k) v p e = subst (λ x. So (meets (set m) x (roles ua x))) (singleton_inj u p e) (and-join (bit u m) (holds_role (roles ua u)) h k)
singleton-meets {ua} (r4 u {φ = φ} w h k) v p e = subst (λ x. So (meets (¬ᵗ φ) x (roles ua x))) (singleton_inj u p e) (and-join (holds_role (roles ua u)) (not (meets φ u (roles ua u))) h k)
singleton-meets (r5 u w h) v p e = never v
singleton-meets (r6 u w h k) v p e = never v
singleton-meets {ua} (r7 {φ = φ} {ψ = ψ} h) v p e = or_left (meets φ p (roles ua p)) (meets ψ p (roles ua p)) (singleton-meets h (and_split (unit φ) (unit ψ) v).0 p e)
singleton-meets {ua} (r8 {φ = φ} {ψ = ψ} h) v p e = or_right (meets φ p (roles ua p)) (meets ψ p (roles ua p)) (singleton-meets h (and_split (unit φ) (unit ψ) v).1 p e)
singleton-meets {ua} (r9 {φ = φ} {ψ = ψ} h k) v p e = and-join (meets φ p (roles ua p)) (meets ψ p (roles ua p))
    (singleton-meets h (and_split (unit φ) (unit ψ) v).0 p e) (singleton-meets k (and_split (unit φ) (unit ψ) v).1 p e)
singleton-meets (r10 h k) v p e = never v
singleton-meets (r11 h k q) v p e = never v

pub meets-is-singleton : MeetsIsSingleton
meets-is-singleton ua u φ v = (meets-singleton ua u φ v, λ h. singleton-meets h v u refl)

-- rule 4 in the paper's form, and that nothing else proves a not
pub rule_4 : Rule4
rule_4 ua u φ v = (
  λ s. let (h, n) = and_split (holds_role (roles ua u)) (not (meets φ u (roles ua u))) (singleton-meets s v u refl) in
      ((some-role ua u).0 h, λ k. false≢true (sym (ap not (singleton-meets k v u refl)) ∙ n)),
  λ x. r4 u v ((some-role ua u).1 x.0) (ap not (not_so (meets φ u (roles ua u)) (λ m. x.1 (meets-singleton ua u φ v m)))),
)

-- ── who acts is who occurs ──
module _ {A : Type 0} (user : A → ℕ) where
  acts_occurs : (s : List A) (p : ℕ) → So (acts user p s) → 1 ≤ multiset (map user s) p
  acts_occurs [] p h = never h
  acts_occurs (a ∷ s) p h = go (or_split (eqb (user a) p) (acts user p s) h) (acts_occurs s p)
    where
      go : So (eqb (user a) p) ⊎ So (acts user p s) → (So (acts user p s) → 1 ≤ multiset (map user s) p) → 1 ≤ singleton (user a) p + multiset (map user s) p
      go (inl x) f = let k : singleton (user a) p ≡ 1 = ap (λ b. cond b 1 0) x in omega arith
      go (inr y) f = let k = f y in omega arith

  occurs_acts : (s : List A) (p : ℕ) → 1 ≤ multiset (map user s) p → So (acts user p s)
  occurs_acts [] p h = absurd (omega arith)
  occurs_acts (a ∷ s) p h = go (eqb (user a) p) refl h (occurs_acts s p)
    where
      go : (b : Bool) → eqb (user a) p ≡ b → 1 ≤ cond b 1 0 + multiset (map user s) p → (1 ≤ multiset (map user s) p → So (acts user p s)) → So (eqb (user a) p || acts user p s)
      go true e k f = or_left (eqb (user a) p) (acts user p s) e
      go false e k f = or_right (eqb (user a) p) (acts user p s) (f (omega arith))

  pub disjoint_multisets : (s t : List A) → So (disjoint user s t) → multiset (map user s) ∩ᵐ multiset (map user t) ≡ ∅ᵐ
  disjoint_multisets s t h = fun_ext (λ p. go (multiset (map user s) p) (multiset (map user t) p) (λ x y. disjoint_out user s t h p (occurs_acts s p x) (occurs_acts t p y)))
    where
      go : (m n : ℕ) → (1 ≤ m → 1 ≤ n → ⊥) → min m n ≡ 0
      go zero n f = omega arith
      go (suc m) zero f = omega arith
      go (suc m) (suc n) f = absurd (f (omega arith) (omega arith))

  pub multisets_disjoint : (s t : List A) → multiset (map user s) ∩ᵐ multiset (map user t) ≡ ∅ᵐ → So (disjoint user s t)
  multisets_disjoint s t e = disjoint_in user s t (λ p x y. go p (acts_occurs s p x) (acts_occurs t p y))
    where
      go : (p : ℕ) → 1 ≤ multiset (map user s) p → 1 ≤ multiset (map user t) p → ⊥
      go p x y = let z : min (multiset (map user s) p) (multiset (map user t) p) ≡ 0 = λ i. e i p in omega arith

-- ── dividing ──
-- a split divides the multiset
split_divides : {s l r : List ℕ} → Split s l r → multiset s ≡ multiset l ⊎ᵐ multiset r
split_divides nil = refl
split_divides (left {s = s} {l = l} {r = r} d) = fun_ext (λ q. let k : multiset s q ≡ multiset l q + multiset r q = λ i. split_divides d i q in omega arith)
split_divides (right {s = s} {l = l} {r = r} d) = fun_ext (λ q. let k : multiset s q ≡ multiset l q + multiset r q = λ i. split_divides d i q in omega arith)

-- .. and every division of a list's multiset comes from a split
record Divided (s : List ℕ) (U W : Multiset) : Type 0 where
  one : List ℕ
  two : List ℕ
  split : Split s one two
  is_one : multiset one ≡ U
  is_two : multiset two ≡ W

singleton_le : (p q : ℕ) (U : Multiset) → 1 ≤ U p → singleton p q ≤ U q
singleton_le p q U h = go (eqb p q) refl
  where
    go : (b : Bool) → eqb p q ≡ b → cond b 1 0 ≤ U q
    go true e = subst (λ x. 1 ≤ U x) (so_eq p q e) h
    go false e = omega arith

-- U without one p
less : Multiset → ℕ → Multiset
less U p q = U q - singleton p q

divide : (s : List ℕ) (U W : Multiset) → multiset s ≡ U ⊎ᵐ W → Divided s U W
unfolding less
divide [] U W e = record {
  one = [];
  two = [];
  split = nil;
  is_one = fun_ext (λ p. let k : 0 ≡ U p + W p = λ i. e i p in omega arith);
  is_two = fun_ext (λ p. let k : 0 ≡ U p + W p = λ i. e i p in omega arith);
}
divide (p ∷ s) U W e = go (U p) refl (divide s (less U p) W) (divide s U (less W p))
  where
    -- what is left, where p is taken from X
    rest : (X Y : Multiset) → ((q : ℕ) → singleton p q + multiset s q ≡ X q + Y q) → 1 ≤ X p → (q : ℕ) → multiset s q ≡ (X q - singleton p q) + Y q
    rest X Y f h q = let k = f q in let m = singleton_le p q X h in omega arith

    put : (X : Multiset) (l : List ℕ) → multiset l ≡ less X p → 1 ≤ X p → multiset (p ∷ l) ≡ X
    put X l f h = fun_ext (λ q. let k : multiset l q ≡ X q - singleton p q = λ i. f i q in let m = singleton_le p q X h in omega arith)

    whole : (q : ℕ) → singleton p q + multiset s q ≡ U q + W q
    whole q = λ i. e i q

    swapped : (q : ℕ) → singleton p q + multiset s q ≡ W q + U q
    swapped q = let k = whole q in omega arith

    go : (n : ℕ) → U p ≡ n → (multiset s ≡ less U p ⊎ᵐ W → Divided s (less U p) W) → (multiset s ≡ U ⊎ᵐ less W p → Divided s U (less W p)) → Divided (p ∷ s) U W
    go (suc n) h f g =
        let d = f (fun_ext (rest U W whole (omega arith))) in
        record { one = p ∷ d.one; two = d.two; split = left d.split; is_one = put U d.one d.is_one (omega arith); is_two = d.is_two }
    go zero h f g =
        let z = whole p in
        let y = singleton_at p in
        let d = g (fun_ext (λ q. let k = rest W U swapped (omega arith) q in omega arith)) in
        record { one = d.one; two = p ∷ d.two; split = right d.split; is_one = d.is_one; is_two = put W d.two d.is_two (omega arith) }

empty_list : (s : List ℕ) → multiset s ≡ ∅ᵐ → s ≡ []
empty_list [] e = refl
empty_list (p ∷ s) e = let k : singleton p p + multiset s p ≡ 0 = λ i. e i p in let y = singleton_at p in absurd (omega arith)

one_list : (s : List ℕ) (u : ℕ) → multiset s ≡ singleton u → s ≡ u ∷ []
one_list [] u e = let k : 0 ≡ singleton u u = λ i. e i u in let y = singleton_at u in absurd (omega arith)
one_list (p ∷ s) u e =
    let k : singleton p p + multiset s p ≡ singleton u p = λ i. e i p in
    let y = singleton_at p in
    let x : u ≡ p = singleton-is u p (omega arith) in
    let z : s ≡ [] = empty_list s (fun_ext (λ q.
    let m : singleton p q + multiset s q ≡ singleton u q = λ i. e i q in let n : singleton u q ≡ singleton p q = ap (λ v. singleton v q) x in omega arith)) in
    ap₂ ◌∷◌ (sym x) z

list_one : (p : ℕ) → multiset (p ∷ []) ≡ singleton p
list_one p = fun_ext (λ q. omega arith)

-- ── users who act under one assignment ──
module _ (ua : UA) where
  abbrev pub seen : List ℕ → List Execution
  seen s = map (execution ua) s

  who_seen : (s : List ℕ) → map who (seen s) ≡ s
  who_seen [] = refl
  who_seen (p ∷ s) = ap (λ x. p ∷ x) (who_seen s)

  unit_complete : (φ : Term) → So (unit φ) → (s : List ℕ) → So (single false (met_by φ) (seen s)) → SatM ua (multiset s) φ
  unit_complete φ u [] h = never h
  unit_complete φ u (p ∷ []) h = subst (λ m. SatM ua m φ) (sym (list_one p)) (meets-singleton ua p φ u h)
  unit_complete φ u (p ∷ q ∷ s) h = never h

  plus_complete : (φ : Term) → So (unit φ) → (s : List ℕ) → So (several false (met_by φ) (seen s)) → SatM ua (multiset s) (φ ⁺)
  plus_complete φ u [] h = never h
  plus_complete φ u (p ∷ []) h = subst (λ m. SatM ua m (φ ⁺)) (sym (list_one p)) (r5 p u (meets-singleton ua p φ u (and_split (meets φ p (roles ua p)) true h).0))
  plus_complete φ u (p ∷ q ∷ s) h =
      let k = and_split (meets φ p (roles ua p)) (all (met_by φ) (seen (q ∷ s))) h in
      r6 p u (meets-singleton ua p φ u k.0) (plus_complete φ u (q ∷ s) k.1)

  -- a judgement of the users seen that proves the rule of a term
  abbrev Proves : Judgement Execution → Term → Type 0
  Proves f φ = (s : List ℕ) → So (f (seen s)) → SatM ua (multiset s) φ

  join_complete : (op : Op) (f g : Judgement Execution) (φ ψ : Term) → Proves f φ → Proves g ψ → Proves (join who op f g) (bin op φ ψ)
  join_complete either f g φ ψ p q s h = elim (or_split (f (seen s)) (g (seen s)) h) [ inl x ↦ r7 (p s x) | inr y ↦ r8 (q s y) ]
  join_complete both f g φ ψ p q s h = let k = and_split (f (seen s)) (g (seen s)) h in r9 (p s k.0) (q s k.1)
  join_complete together f g φ ψ p q s h =
      let m = together_out who f g (seen s) h in
      let d = unmap (execution ua) s m.split in
      subst (λ x. SatM ua x (bin together φ ψ)) (sym (split_divides d.split))
      (r10 (p d.one (subst (λ x. So (f x)) (sym d.is_one) m.for_one)) (q d.two (subst (λ x. So (g x)) (sym d.is_two) m.for_two)))
  join_complete apart f g φ ψ p q s h =
      let (m, c) = apart_out who f g (seen s) h in
      let d = unmap (execution ua) s m.split in
      let c₁ : So (disjoint who (seen d.one) (seen d.two)) = subst₂ (λ l r. So (disjoint who l r)) (sym d.is_one) (sym d.is_two) c in
      subst (λ x. SatM ua x (bin apart φ ψ)) (sym (split_divides d.split))
      (r11 (p d.one (subst (λ x. So (f x)) (sym d.is_one) m.for_one)) (q d.two (subst (λ x. So (g x)) (sym d.is_two) m.for_two))
      (subst₂ (λ l r. multiset l ∩ᵐ multiset r ≡ ∅ᵐ) (who_seen d.one) (who_seen d.two) (disjoint_multisets who (seen d.one) (seen d.two) c₁)))

  complete : (φ : Term) → So (well_formed φ) → Proves (judge false φ) φ
  complete everyone w s h = unit_complete everyone refl s (sym (judge-unit false everyone refl (seen s)) ∙ h)
  complete (role r) w s h = unit_complete (role r) refl s (sym (judge-unit false (role r) refl (seen s)) ∙ h)
  complete (set m) w s h = unit_complete (set m) refl s (sym (judge-unit false (set m) refl (seen s)) ∙ h)
  complete (¬ᵗ φ) w s h = let u = (and_split (unit φ) (well_formed φ) w).0 in unit_complete (¬ᵗ φ) u s (sym (judge-unit false (¬ᵗ φ) u (seen s)) ∙ h)
  complete (φ ⁺) w s h = plus_complete φ (and_split (unit φ) (well_formed φ) w).0 s (sym (judge-plus false φ (seen s)) ∙ h)
  complete (bin op φ ψ) w s h =
      let k = and_split (well_formed φ) (well_formed ψ) w in
      join_complete op (judge false φ) (judge false ψ) φ ψ (complete φ k.0) (complete ψ k.1) s (sym (judge-bin false op φ ψ (seen s)) ∙ h)

-- one user who meets a unit term
one-user : (φ : Term) → So (unit φ) → (ua : UA) (u : ℕ) (s : List ℕ) → multiset s ≡ singleton u → So (meets φ u (roles ua u)) → So (judge false φ (seen ua s))
one-user φ v ua u s e m = subst (λ x. So (judge false φ (seen ua x))) (sym (one_list s u e)) (judge-unit false φ v (execution ua u ∷ []) ∙ m)

-- a list with a part that is not empty, all of which passes
several_parts : {A : Type 0} (f : A → Bool) {s l r : List A} → Split s l r → So (all f l) → So (several false f r) → So (several false f s)
several_parts f nil h k = never k
several_parts f {r = []} (left p) h k = never k
several_parts f {r = y ∷ r} (left p) h k = all_parts f (left p) h k
several_parts f (right p) h k = all_parts f (right p) h k

sound : {ua : UA} {M : Multiset} {φ : Term} → SatM ua M φ → (s : List ℕ) → multiset s ≡ M → So (judge false φ (seen ua s))
sound {ua} (r1 u h) s e = one-user everyone refl ua u s e h
sound {ua} (r2 u r h) s e = one-user (role r) refl ua u s e h
sound {ua} (r3 u m h k) s e = one-user (set m) refl ua u s e (and-join (bit u m) (holds_role (roles ua u)) h k)
sound {ua} (r4 u {φ = φ} v h k) s e = one-user (¬ᵗ φ) v ua u s e (and-join (holds_role (roles ua u)) (not (meets φ u (roles ua u))) h k)
sound {ua} (r5 u {φ = φ} v h) s e = subst (λ x. So (judge false (φ ⁺) (seen ua x))) (sym (one_list s u e))
    (judge-plus false φ (execution ua u ∷ []) ∙ and-join (meets φ u (roles ua u)) true (singleton-meets h v u refl) refl)
sound {ua} (r6 u {U = U} {φ = φ} v h k) s e =
    let d = divide s (singleton u) U e in
    let m : So (several false (met_by φ) (seen ua d.two)) = sym (judge-plus false φ (seen ua d.two)) ∙ sound k d.two d.is_two in
    let n : So (all (met_by φ) (seen ua d.one)) = subst (λ y. So (all (met_by φ) (seen ua y))) (sym (one_list d.one u d.is_one))
    (and-join (meets φ u (roles ua u)) true (singleton-meets h v u refl) refl) in
    judge-plus false φ (seen ua s) ∙ several_parts (met_by φ) (split_map (execution ua) d.split) n m
sound {ua} (r7 {φ = φ} {ψ = ψ} h) s e = judge-bin false either φ ψ (seen ua s) ∙ or_left (judge false φ (seen ua s)) (judge false ψ (seen ua s)) (sound h s e)
sound {ua} (r8 {φ = φ} {ψ = ψ} h) s e = judge-bin false either φ ψ (seen ua s) ∙ or_right (judge false φ (seen ua s)) (judge false ψ (seen ua s)) (sound h s e)
sound {ua} (r9 {φ = φ} {ψ = ψ} h k) s e = judge-bin false both φ ψ (seen ua s) ∙ and-join (judge false φ (seen ua s)) (judge false ψ (seen ua s)) (sound h s e) (sound k s e)
sound {ua} (r10 {U = U} {W = W} {φ = φ} {ψ = ψ} h k) s e =
    let d = divide s U W e in
    judge-bin false together φ ψ (seen ua s) ∙ together_in who (judge false φ) (judge false ψ) (record {
      one = seen ua d.one;
      two = seen ua d.two;
      split = split_map (execution ua) d.split;
      for_one = sound h d.one d.is_one;
      for_two = sound k d.two d.is_two;
    })
sound {ua} (r11 {U = U} {W = W} {φ = φ} {ψ = ψ} h k z) s e =
    let d = divide s U W e in
    let y : multiset (map who (seen ua d.one)) ∩ᵐ multiset (map who (seen ua d.two)) ≡ ∅ᵐ =
    subst₂ (λ l r. l ∩ᵐ r ≡ ∅ᵐ) (sym (ap multiset (who_seen ua d.one) ∙ d.is_one)) (sym (ap multiset (who_seen ua d.two) ∙ d.is_two)) z in
    judge-bin false apart φ ψ (seen ua s) ∙ apart_in who (judge false φ) (judge false ψ) (record {
      one = seen ua d.one;
      two = seen ua d.two;
      split = split_map (execution ua) d.split;
      for_one = sound h d.one d.is_one;
      for_two = sound k d.two d.is_two;
    }) (multisets_disjoint who (seen ua d.one) (seen ua d.two) y)

-- users in any order that make up the multiset
pub judge-is-multiset : (φ : Term) → So (well_formed φ) → (ua : UA) (s : List ℕ) → So (judge false φ (seen ua s)) ↔ SatM ua (multiset s) φ
judge-is-multiset φ w ua s = (complete ua φ w s, λ h. sound h s refl)
