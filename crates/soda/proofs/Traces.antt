-- `satisfied` is trace satisfaction (Definition 6): a synchronised interleaving splits the actions of a trace, and every split of
-- them comes from one.
use mathlib.Core.Path.{◌≡◌, refl, sym, ap, subst, subst₂, ◌∙◌}
use mathlib.Core.Logic.{inl, inr, ◌↔◌}
use mathlib.Core.Bool.{Bool, true, false, So}
use mathlib.Core.List.{List, [], ◌∷◌, ◌++◌, map, append_assoc, append-nil}
use Prim.Native.Nat.{ℕ}
use Rattle.soda.specs.Lists.{all, Split, nil, left, right}
use Rattle.soda.specs.Terms.{Op, either, both, together, apart, Term, everyone, role, set, ¬ᵗ◌, ◌⁺, bin, unit, well_formed}
use Rattle.soda.specs.Roles.{UA, roles, grant, revoke, meets}
use Rattle.soda.specs.Tables.{single, several, disjoint, join, Execution, met_by, judge}
use Rattle.soda.specs.Multisets.{Multiset, singleton, multiset, ◌⊎ᵐ◌, ◌∩ᵐ◌, ∅ᵐ}
use Rattle.soda.specs.Traces.{Event, business, add_ua, rm_ua, admin, upd, Trace, users, execution, executed, Si, si_nil, si_both, si_left, si_right, SatT, t1, t2, t3, t4, t5, t6, t7, t8, t9, t10, t11}
use Rattle.soda.specs.Laws.{ExecutedAppend}
use Rattle.soda.proofs.Bools.{never, and_split, and-join, or_split, or_left, or_right}
use Rattle.soda.proofs.Tables.{several-all, Judgement, together_out, together_in, apart_out, apart_in, who, judge-unit, judge-plus, judge-bin}
use Rattle.soda.proofs.Multisets.{meets-is-singleton, disjoint_multisets, multisets_disjoint}

-- ── the actions of a trace ──
pub si_split : {t t₁ t₂ : Trace} → Si t t₁ t₂ → (ua : UA) → Split (executed ua t) (executed ua t₁) (executed ua t₂)
si_split si_nil ua = nil
si_split (si_both {a = business u a} h s) ua = never h
si_split (si_both {a = add_ua u r} h s) ua = si_split s (grant ua u r)
si_split (si_both {a = rm_ua u r} h s) ua = si_split s (revoke ua u r)
si_split (si_left {b = business u a} h s) ua = left (si_split s ua)
si_split (si_left {b = add_ua u r} h s) ua = never h
si_split (si_left {b = rm_ua u r} h s) ua = never h
si_split (si_right {b = business u a} h s) ua = right (si_split s ua)
si_split (si_right {b = add_ua u r} h s) ua = never h
si_split (si_right {b = rm_ua u r} h s) ua = never h

-- two traces that interleave to t, with these actions
pub record Interleaved (ua : UA) (t : Trace) (l r : List Execution) : Type 0 where
  pub one : Trace
  pub two : Trace
  pub si : Si t one two
  pub is_one : executed ua one ≡ l
  pub is_two : executed ua two ≡ r

pub split_si : (t : Trace) (ua : UA) {l r : List Execution} → Split (executed ua t) l r → Interleaved ua t l r
split_si [] ua nil = record { one = []; two = []; si = si_nil; is_one = refl; is_two = refl }
split_si (business u a ∷ t) ua (left d) = let f = split_si t ua d in
    record { one = business u a ∷ f.one; two = f.two; si = si_left refl f.si; is_one = ap (λ s. execution ua u ∷ s) f.is_one; is_two = f.is_two }
split_si (business u a ∷ t) ua (right d) = let f = split_si t ua d in
    record { one = f.one; two = business u a ∷ f.two; si = si_right refl f.si; is_one = f.is_one; is_two = ap (λ s. execution ua u ∷ s) f.is_two }
split_si (add_ua u r ∷ t) ua d = let f = split_si t (grant ua u r) d in
    record { one = add_ua u r ∷ f.one; two = add_ua u r ∷ f.two; si = si_both refl f.si; is_one = f.is_one; is_two = f.is_two }
split_si (rm_ua u r ∷ t) ua d = let f = split_si t (revoke ua u r) d in
    record { one = rm_ua u r ∷ f.one; two = rm_ua u r ∷ f.two; si = si_both refl f.si; is_one = f.is_one; is_two = f.is_two }

-- the actions of two traces in a row
pub executed_append : ExecutedAppend
executed_append [] t ua = refl
executed_append (business u a ∷ s) t ua = ap (λ x. execution ua u ∷ x) (executed_append s t ua)
executed_append (add_ua u r ∷ s) t ua = executed_append s t (grant ua u r)
executed_append (rm_ua u r ∷ s) t ua = executed_append s t (revoke ua u r)

-- an admin event is no action
no_action_lem : (ua : UA) (a : Event) → So (admin a) → executed ua (a ∷ []) ≡ []
no_action_lem ua (business u a) h = never h
no_action_lem ua (add_ua u r) h = refl
no_action_lem ua (rm_ua u r) h = refl

executed-last : (t : Trace) (ua : UA) (a : Event) → So (admin a) → executed ua (t ++ (a ∷ [])) ≡ executed ua t
executed-last t ua a h = executed_append t (a ∷ []) ua ∙ ap (λ x. executed ua t ++ x) (no_action_lem (upd ua t) a h) ∙ append-nil (executed ua t)

pub users-executed : (t : Trace) (ua : UA) → users t ≡ multiset (map who (executed ua t))
users-executed [] ua = refl
users-executed (business u a ∷ t) ua = ap (λ (m : Multiset). singleton u ⊎ᵐ m) (users-executed t ua)
users-executed (add_ua u r ∷ t) ua = users-executed t (grant ua u r)
users-executed (rm_ua u r ∷ t) ua = users-executed t (revoke ua u r)

-- ── from Definition 6 to the table ──
one_met : (ua : UA) (u a : ℕ) (φ : Term) → So (unit φ) → So (judge false φ (executed ua (business u a ∷ []))) → So (meets φ u (roles ua u))
one_met ua u a φ v h = sym (judge-unit false φ v (execution ua u ∷ [])) ∙ h

satisfied_sound : {ua : UA} {t : Trace} {φ : Term} → SatT ua t φ → So (judge false φ (executed ua t))
satisfied_sound {ua} (t1 {u = u} {φ = φ} v s) = judge-unit false φ v (execution ua u ∷ []) ∙ (meets-is-singleton ua u φ v).1 s
satisfied_sound {ua} (t2 {t = t} a {φ = φ} h s) = ap (judge false φ) (executed-last t ua a h) ∙ satisfied_sound s
satisfied_sound (t3 s) = satisfied_sound s
satisfied_sound (t4 s) = satisfied_sound s
satisfied_sound {ua} (t5 {u = u} {a = a} {φ = φ} v s) = judge-plus false φ (execution ua u ∷ []) ∙ and-join (meets φ u (roles ua u)) true (one_met ua u a φ v (satisfied_sound s)) refl
satisfied_sound {ua} (t6 {u = u} {a = a} {t = t} {φ = φ} v s k) =
    judge-plus false φ (execution ua u ∷ executed ua t) ∙ and-join (meets φ u (roles ua u)) (all (met_by φ) (executed ua t)) (one_met ua u a φ v (satisfied_sound s))
    (several-all (met_by φ) false (executed ua t) (sym (judge-plus false φ (executed ua t)) ∙ satisfied_sound k))
satisfied_sound {ua} {t} (t7 {φ = φ} {ψ = ψ} s) =
    judge-bin false either φ ψ (executed ua t) ∙ or_left (judge false φ (executed ua t)) (judge false ψ (executed ua t)) (satisfied_sound s)
satisfied_sound {ua} {t} (t8 {φ = φ} {ψ = ψ} s) =
    judge-bin false either φ ψ (executed ua t) ∙ or_right (judge false φ (executed ua t)) (judge false ψ (executed ua t)) (satisfied_sound s)
satisfied_sound {ua} {t} (t9 {φ = φ} {ψ = ψ} s k) =
    judge-bin false both φ ψ (executed ua t) ∙ and-join (judge false φ (executed ua t)) (judge false ψ (executed ua t)) (satisfied_sound s) (satisfied_sound k)
satisfied_sound {ua} {t} (t10 {t₁ = a} {t₂ = b} {φ = φ} {ψ = ψ} s k x) = judge-bin false together φ ψ (executed ua t) ∙ together_in who (judge false φ) (judge false ψ)
    (record { one = executed ua a; two = executed ua b; split = si_split x ua; for_one = satisfied_sound s; for_two = satisfied_sound k })
satisfied_sound {ua} {t} (t11 {t₁ = a} {t₂ = b} {φ = φ} {ψ = ψ} s k x e) = judge-bin false apart φ ψ (executed ua t) ∙ apart_in who (judge false φ) (judge false ψ)
    (record { one = executed ua a; two = executed ua b; split = si_split x ua; for_one = satisfied_sound s; for_two = satisfied_sound k })
    (multisets_disjoint who (executed ua a) (executed ua b) (subst₂ (λ U W. U ∩ᵐ W ≡ ∅ᵐ) (users-executed a ua) (users-executed b ua) e))

-- ── from the table to Definition 6 ──
-- whether no action stands in a list
abbrev pub is-nil : List Execution → Bool
is-nil [] = true
is-nil (x ∷ l) = false

-- admin events behind a trace change nothing; ua₂ is the assignment behind it
trailing : {ua : UA} {φ : Term} (s t : Trace) (ua₂ : UA) → executed ua₂ t ≡ [] → SatT ua s φ → SatT ua (s ++ t) φ
trailing {ua} {φ} s [] ua₂ h k = subst (λ x. SatT ua x φ) (sym (append-nil s)) k
trailing s (business u a ∷ t) ua₂ h k = never (ap is-nil h)
trailing {ua} {φ} s (add_ua u r ∷ t) ua₂ h k = subst (λ x. SatT ua x φ) (append_assoc s (add_ua u r ∷ []) t) (trailing (s ++ (add_ua u r ∷ [])) t (grant ua₂ u r) h (t2 (add_ua u r) refl k))
trailing {ua} {φ} s (rm_ua u r ∷ t) ua₂ h k = subst (λ x. SatT ua x φ) (append_assoc s (rm_ua u r ∷ []) t) (trailing (s ++ (rm_ua u r ∷ [])) t (revoke ua₂ u r) h (t2 (rm_ua u r) refl k))

-- a trace with one action, by a user who met the term
unit_complete : (φ : Term) → So (unit φ) → (t : Trace) (ua : UA) → So (single false (met_by φ) (executed ua t)) → SatT ua t φ
unit_complete φ v [] ua h = never h
unit_complete φ v (business u a ∷ t) ua h = go (executed ua t) refl h
  where
    go : (s : List Execution) → executed ua t ≡ s → So (single false (met_by φ) (execution ua u ∷ s)) → SatT ua (business u a ∷ t) φ
    go [] e k = trailing (business u a ∷ []) t ua e (t1 v ((meets-is-singleton ua u φ v).0 k))
    go (b ∷ s) e k = never k
unit_complete φ v (add_ua u r ∷ t) ua h = t3 (unit_complete φ v t (grant ua u r) h)
unit_complete φ v (rm_ua u r ∷ t) ua h = t4 (unit_complete φ v t (revoke ua u r) h)

plus_complete : (φ : Term) → So (unit φ) → (t : Trace) (ua : UA) → So (several false (met_by φ) (executed ua t)) → SatT ua t (φ ⁺)
plus_complete φ v [] ua h = never h
plus_complete φ v (business u a ∷ t) ua h = go (executed ua t) refl h (plus_complete φ v t ua)
  where
    first : So (meets φ u (roles ua u)) → SatT ua (business u a ∷ []) φ
    first m = t1 v ((meets-is-singleton ua u φ v).0 m)

    go : (s : List Execution) → executed ua t ≡ s → So (all (met_by φ) (execution ua u ∷ s)) → (So (several false (met_by φ) (executed ua t)) → SatT ua t (φ ⁺)) → SatT ua (business u a ∷ t) (φ ⁺)
    go [] e k ih = trailing (business u a ∷ []) t ua e (t5 v (first (and_split (meets φ u (roles ua u)) true k).0))
    go (b ∷ s) e k ih = let m = and_split (meets φ u (roles ua u)) (all (met_by φ) (b ∷ s)) k in t6 v (first m.0) (ih (ap (several false (met_by φ)) e ∙ m.1))
plus_complete φ v (add_ua u r ∷ t) ua h = t3 (plus_complete φ v t (grant ua u r) h)
plus_complete φ v (rm_ua u r ∷ t) ua h = t4 (plus_complete φ v t (revoke ua u r) h)

-- a judgement of a trace's actions that proves the rule of a term
abbrev Proves : Judgement Execution → Term → Type 0
Proves f φ = (t : Trace) (ua : UA) → So (f (executed ua t)) → SatT ua t φ

join_complete : (op : Op) (f g : Judgement Execution) (φ ψ : Term) → Proves f φ → Proves g ψ → Proves (join who op f g) (bin op φ ψ)
join_complete either f g φ ψ p q t ua h = elim (or_split (f (executed ua t)) (g (executed ua t)) h) [ inl x ↦ t7 (p t ua x) | inr y ↦ t8 (q t ua y) ]
join_complete both f g φ ψ p q t ua h = let k = and_split (f (executed ua t)) (g (executed ua t)) h in t9 (p t ua k.0) (q t ua k.1)
join_complete together f g φ ψ p q t ua h =
    let m = together_out who f g (executed ua t) h in
    let d = split_si t ua m.split in
    t10 (p d.one ua (subst (λ s. So (f s)) (sym d.is_one) m.for_one)) (q d.two ua (subst (λ s. So (g s)) (sym d.is_two) m.for_two)) d.si
join_complete apart f g φ ψ p q t ua h =
    let (m, c) = apart_out who f g (executed ua t) h in
    let d = split_si t ua m.split in
    let c₁ : So (disjoint who (executed ua d.one) (executed ua d.two)) = subst₂ (λ l r. So (disjoint who l r)) (sym d.is_one) (sym d.is_two) c in
    t11 (p d.one ua (subst (λ s. So (f s)) (sym d.is_one) m.for_one)) (q d.two ua (subst (λ s. So (g s)) (sym d.is_two) m.for_two)) d.si
    (subst₂ (λ U W. U ∩ᵐ W ≡ ∅ᵐ) (sym (users-executed d.one ua)) (sym (users-executed d.two ua)) (disjoint_multisets who (executed ua d.one) (executed ua d.two) c₁))

satisfied_complete : (φ : Term) → So (well_formed φ) → Proves (judge false φ) φ
satisfied_complete everyone w t ua h = unit_complete everyone refl t ua (sym (judge-unit false everyone refl (executed ua t)) ∙ h)
satisfied_complete (role r) w t ua h = unit_complete (role r) refl t ua (sym (judge-unit false (role r) refl (executed ua t)) ∙ h)
satisfied_complete (set m) w t ua h = unit_complete (set m) refl t ua (sym (judge-unit false (set m) refl (executed ua t)) ∙ h)
satisfied_complete (¬ᵗ φ) w t ua h = let v = (and_split (unit φ) (well_formed φ) w).0 in unit_complete (¬ᵗ φ) v t ua (sym (judge-unit false (¬ᵗ φ) v (executed ua t)) ∙ h)
satisfied_complete (φ ⁺) w t ua h = plus_complete φ (and_split (unit φ) (well_formed φ) w).0 t ua (sym (judge-plus false φ (executed ua t)) ∙ h)
satisfied_complete (bin op φ ψ) w t ua h =
    let k = and_split (well_formed φ) (well_formed ψ) w in
    join_complete op (judge false φ) (judge false ψ) φ ψ (satisfied_complete φ k.0) (satisfied_complete ψ k.1) t ua (sym (judge-bin false op φ ψ (executed ua t)) ∙ h)

pub judge-is_trace : (φ : Term) → So (well_formed φ) → (ua : UA) (t : Trace) → So (judge false φ (executed ua t)) ↔ SatT ua t φ
judge-is_trace φ w ua t = (satisfied_complete φ w t ua, satisfied_sound)
