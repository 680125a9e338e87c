-- The table is Definition 7: `possible` says which traces the process of a term has, `satisfied` which it has with done behind them.
use mathlib.Core.Path.{◌≡◌, refl, sym, ap, subst, ◌∙◌}
use mathlib.Core.Logic.{◌⊎◌, inl, inr, ◌↔◌}
use mathlib.Core.Bool.{Bool, true, false, So, not, ◌&&◌, ◌||◌, cond, false≢true}
use mathlib.Core.List.{List, [], ◌∷◌}
use Prim.Native.Nat.{ℕ}
use lib.Dec.{eqb}
use Rattle.soda.specs.Lists.{all}
use Rattle.soda.specs.Terms.{Op, either, both, together, apart, Term, everyone, role, set, ¬ᵗ◌, ◌⁺, bin, unit}
use Rattle.soda.specs.Roles.{UA, roles, grant, revoke, meets}
use Rattle.soda.specs.Tables.{single, several, acts, join, Execution, met_by, judge}
use Rattle.soda.specs.Traces.{business, add_ua, rm_ua, Trace, execution, executed, Si, si_nil, si_both, si_left, si_right}
use Rattle.soda.specs.Csp.{Process, stop, prefix, choice, some, parallel, call, Merge, m_nil, m_both, m_left, m_right, Accepts, at_stop, at_prefix, by_prefix, by_left, by_right, by_some, by_parallel, by_call}
use Rattle.soda.specs.Processes.{Symbol, event, done, Users, P, Name, fin, once, repeat, is_add_ua, is_rm_ua, administered, waiting, body, sync, Parts, compose, process, unfinished, finished}
use Rattle.soda.proofs.Bools.{never, and_split, and-join, or_split, or_left, or_right, not_so, so_eq, eq_so}
use Rattle.soda.proofs.Splits.{all_part, all_parts, split_swap}
use Rattle.soda.proofs.Tables.{several-all, Judgement, Halves, together_out, together_in, apart_out, apart_in, who, judge-unit, not-row, judge-plus, judge-bin}
use Rattle.soda.proofs.Joins.{acts-left, disjoint_in, disjoint_out}
use Rattle.soda.proofs.Traces.{si_split, split_si, is-nil}

-- ── traces of processes taken apart ──
module _ {Σ N : Type 0} {def : N → Process Σ N} where
  pub stop_out : {t : List Σ} → Accepts def stop t → t ≡ []
  stop_out at_stop = refl

  pub call_out : {n : N} {t : List Σ} → Accepts def (call n) t → Accepts def (def n) t
  call_out (by_call h) = h

  pub choice_out : {p q : Process Σ N} {t : List Σ} → Accepts def (choice p q) t → Accepts def p t ⊎ Accepts def q t
  choice_out (by_left h) = inl h
  choice_out (by_right h) = inr h

  pub prefix_out : {E : Σ → Bool} {p : Σ → Process Σ N} {e : Σ} {t : List Σ} → Accepts def (prefix E p) (e ∷ t) → So (E e) × Accepts def (p e) t
  prefix_out (by_prefix h k) = (h, k)

  pub some_out : {I : Type 0} {p : I → Process Σ N} {t : List Σ} → Accepts def (some I p) t → (i : I) × Accepts def (p i) t
  some_out (by_some i h) = (i, h)

  pub parallel_out : {E : Σ → Bool} {p q : Process Σ N} {t : List Σ} → Accepts def (parallel E p q) t
      → (l : List Σ) × (r : List Σ) × Accepts def p l × Accepts def q r × Merge E t l r
  parallel_out (by_parallel {t₁ = l} {t₂ = r} h k m) = (l, r, h, k, m)

  -- an event that a process does not wait for
  pub refuses : {E : Σ → Bool} {p : Σ → Process Σ N} {e : Σ} {t : List Σ} → E e ≡ false → Accepts def (prefix E p) (e ∷ t) → ⊥
  refuses f h = false≢true (sym f ∙ (prefix_out h).0)

-- ── merges ──
-- the trace of symbols of a column: with done behind it for satisfied
unfoldable pub ending : Bool → Trace → List Symbol
ending true [] = []
ending false [] = done ∷ []
ending e (s ∷ t) = event s ∷ ending e t

pub ending_unfinished : (t : Trace) → ending true t ≡ unfinished t
unfolding ending
ending_unfinished [] = refl
ending_unfinished (s ∷ t) = ap (λ l. event s ∷ l) (ending_unfinished t)

pub ending_finished : (t : Trace) → ending false t ≡ finished t
unfolding ending
ending_finished [] = refl
ending_finished (s ∷ t) = ap (λ l. event s ∷ l) (ending_finished t)

-- synchronised on everything: the traces are one
pub merge-all : {Σ : Type 0} (t : List Σ) → Merge (λ e. true) t t t
merge-all [] = m_nil
merge-all (e ∷ t) = m_both refl (merge-all t)

pub all-merge : {Σ : Type 0} {t l r : List Σ} → Merge (λ e. true) t l r → (l ≡ t) × (r ≡ t)
all-merge m_nil = (refl, refl)
all-merge (m_both {e = e} h m) = let k = all-merge m in (ap (λ x. e ∷ x) k.0, ap (λ x. e ∷ x) k.1)
all-merge (m_left h m) = never h
all-merge (m_right h m) = never h

-- synchronised on done and the admin events: synchronised interleavings
si_merge : {t t₁ t₂ : Trace} (e : Bool) → Si t t₁ t₂ → Merge sync (ending e t) (ending e t₁) (ending e t₂)
unfolding ending
si_merge true si_nil = m_nil
si_merge false si_nil = m_both refl m_nil
si_merge e (si_both h s) = m_both h (si_merge e s)
si_merge e (si_left h s) = m_left h (si_merge e s)
si_merge e (si_right h s) = m_right h (si_merge e s)

record Merged (e : Bool) (t : Trace) (l r : List Symbol) : Type 0 where
  one : Trace
  two : Trace
  si : Si t one two
  is_one : l ≡ ending e one
  is_two : r ≡ ending e two

merge_si : (e : Bool) (t : Trace) {l r : List Symbol} → Merge sync (ending e t) l r → Merged e t l r
unfolding ending
merge_si true [] m_nil = record { one = []; two = []; si = si_nil; is_one = refl; is_two = refl }
merge_si false [] (m_both h m_nil) = record { one = []; two = []; si = si_nil; is_one = refl; is_two = refl }
merge_si false [] (m_left h m) = never h
merge_si false [] (m_right h m) = never h
merge_si e (s ∷ t) (m_both h m) = let f = merge_si e t m in
    record { one = s ∷ f.one; two = s ∷ f.two; si = si_both h f.si; is_one = ap (λ x. event s ∷ x) f.is_one; is_two = ap (λ x. event s ∷ x) f.is_two }
merge_si e (s ∷ t) (m_left h m) = let f = merge_si e t m in
    record { one = s ∷ f.one; two = f.two; si = si_left h f.si; is_one = ap (λ x. event s ∷ x) f.is_one; is_two = f.is_two }
merge_si e (s ∷ t) (m_right h m) = let f = merge_si e t m in
    record { one = f.one; two = s ∷ f.two; si = si_right h f.si; is_one = f.is_one; is_two = ap (λ x. event s ∷ x) f.is_two }

-- ── FIN, rules 1 and 2 ──
abbrev pub Has : P → List Symbol → Type 1
Has p t = Accepts body p t

-- everyone who acts is in U
abbrev pub within : Users → List Execution → Bool
within U s = all (λ a. U a.user) s

-- FIN has the traces without actions
fin_in : (e : Bool) (t : Trace) (ua : UA) → executed ua t ≡ [] → Has (call fin) (ending e t)
unfolding ending
fin_in true [] ua h = by_call (by_left at_prefix)
fin_in false [] ua h = by_call (by_left (by_prefix refl at_stop))
fin_in e (business u a ∷ t) ua h = never ((ap is-nil h))
fin_in e (add_ua u r ∷ t) ua h = by_call (by_right (by_prefix refl (fin_in e t (grant ua u r) h)))
fin_in e (rm_ua u r ∷ t) ua h = by_call (by_right (by_prefix refl (fin_in e t (revoke ua u r) h)))

fin_out : (e : Bool) (t : Trace) (ua : UA) → Has (call fin) (ending e t) → executed ua t ≡ []
unfolding ending
fin_out e [] ua h = refl
fin_out e (business u a ∷ t) ua h = elim (choice_out (call_out h)) [ inl x ↦ absurd (refuses refl x) | inr y ↦ absurd (refuses refl y) ]
fin_out e (add_ua u r ∷ t) ua h = elim (choice_out (call_out h)) [ inl x ↦ absurd (refuses refl x) | inr y ↦ fin_out e t (grant ua u r) (prefix_out y).1 ]
fin_out e (rm_ua u r ∷ t) ua h = elim (choice_out (call_out h)) [ inl x ↦ absurd (refuses refl x) | inr y ↦ fin_out e t (revoke ua u r) (prefix_out y).1 ]

-- row "unit" of a list that begins with a
module _ (e : Bool) (f : Execution → Bool) (a : Execution) where
  single_out : (s : List Execution) → So (single e f (a ∷ s)) → So (f a) × (s ≡ [])
  single_out [] h = (h, refl)
  single_out (b ∷ s) h = never h

  single_in : (s : List Execution) → So (f a) → s ≡ [] → So (single e f (a ∷ s))
  single_in s h k = ap (λ l. single e f (a ∷ l)) k ∙ h

once_in : (φ : Term) (U : Users) (e : Bool) (t : Trace) (ua : UA) → So (within U (executed ua t)) → So (single e (met_by φ) (executed ua t)) → Has (call (once φ U ua)) (ending e t)
unfolding ending
once_in φ U true [] ua w h = by_call (by_left at_prefix)
once_in φ U false [] ua w h = never h
once_in φ U e (business u a ∷ t) ua w h =
    let (m, n) = single_out e (met_by φ) (execution ua u) (executed ua t) h in
    by_call (by_left (by_prefix (and-join (U u) (meets φ u (roles ua u)) (and_split (U u) (within U (executed ua t)) w).0 m) (fin_in e t ua n)))
once_in φ U e (add_ua u r ∷ t) ua w h = by_call (by_right (by_left (by_prefix refl (once_in φ U e t (grant ua u r) w h))))
once_in φ U e (rm_ua u r ∷ t) ua w h = by_call (by_right (by_right (by_prefix refl (once_in φ U e t (revoke ua u r) w h))))

-- what a process says of the actions: the table's column, and that all of them are by members of U
abbrev pub Told : Bool → Users → List Execution → Type 0
Told b U s = So b × So (within U s)

-- a trace of what rules 1 and 2 and RBAC share, by its first symbol: an admin event that p does not wait for, or another
module _ (ua : UA) (n : UA → Name) {E : Symbol → Bool} {p : Symbol → P} {t : List Symbol} where
  pub grant_out : {u r : ℕ} → E (event (add_ua u r)) ≡ false → Has (administered ua n (prefix E p)) (event (add_ua u r) ∷ t) → Has (call (n (grant ua u r))) t
  grant_out f h = elim (choice_out h) [ inl x ↦ absurd (refuses f x) | inr y ↦ elim (choice_out y) [ inl z ↦ (prefix_out z).1 | inr z ↦ absurd (refuses refl z) ] ]

  pub revoke_out : {u r : ℕ} → E (event (rm_ua u r)) ≡ false → Has (administered ua n (prefix E p)) (event (rm_ua u r) ∷ t) → Has (call (n (revoke ua u r))) t
  revoke_out f h = elim (choice_out h) [ inl x ↦ absurd (refuses f x) | inr y ↦ elim (choice_out y) [ inl z ↦ absurd (refuses refl z) | inr z ↦ (prefix_out z).1 ] ]

  pub other_out : {e : Symbol} → is_add_ua e ≡ false → is_rm_ua e ≡ false → Has (administered ua n (prefix E p)) (e ∷ t) → So (E e) × Has (p e) t
  other_out f g h = elim (choice_out h) [ inl x ↦ prefix_out x | inr y ↦ elim (choice_out y) [ inl z ↦ absurd (refuses f z) | inr z ↦ absurd (refuses g z) ] ]

module _ (φ : Term) (U : Users) (ua : UA) (n : UA → Name) (p : P) {t : List Symbol} where
  pub done_out : Has (waiting φ U ua n p) (done ∷ t) → ⊥
  done_out h = false≢true (other_out ua n refl refl h).0

  pub taken_out : {u a : ℕ} → Has (waiting φ U ua n p) (event (business u a) ∷ t) → So (U u) × So (meets φ u (roles ua u)) × Has p t
  taken_out {u} {a} h = let (k, f) = other_out ua n refl refl h in let (v, m) = and_split (U u) (meets φ u (roles ua u)) k in (v, m, f)

  pub added_out : {u r : ℕ} → Has (waiting φ U ua n p) (event (add_ua u r) ∷ t) → Has (call (n (grant ua u r))) t
  added_out h = grant_out ua n refl h

  pub removed_out : {u r : ℕ} → Has (waiting φ U ua n p) (event (rm_ua u r) ∷ t) → Has (call (n (revoke ua u r))) t
  removed_out h = revoke_out ua n refl h

once_out : (φ : Term) (U : Users) (e : Bool) (t : Trace) (ua : UA) → Has (call (once φ U ua)) (ending e t) → Told (single e (met_by φ) (executed ua t)) U (executed ua t)
unfolding ending
once_out φ U true [] ua h = (refl, refl)
once_out φ U false [] ua h = absurd (done_out φ U ua (once φ U) (call fin) (call_out h))
once_out φ U e (business u a ∷ t) ua h =
    let (v, m, f) = taken_out φ U ua (once φ U) (call fin) (call_out h) in
    let k = fin_out e t ua f in
    (single_in e (met_by φ) (execution ua u) (executed ua t) m k, and-join (U u) (within U (executed ua t)) v (ap (within U) k))
once_out φ U e (add_ua u r ∷ t) ua h = once_out φ U e t (grant ua u r) (added_out φ U ua (once φ U) (call fin) (call_out h))
once_out φ U e (rm_ua u r ∷ t) ua h = once_out φ U e t (revoke ua u r) (removed_out φ U ua (once φ U) (call fin) (call_out h))

repeat_in : (φ : Term) (U : Users) (e : Bool) (t : Trace) (ua : UA) → So (within U (executed ua t)) → So (several e (met_by φ) (executed ua t)) → Has (call (repeat φ U ua)) (ending e t)
unfolding ending
repeat_in φ U true [] ua w h = by_call (by_left at_prefix)
repeat_in φ U false [] ua w h = never h
repeat_in φ U e (business u a ∷ t) ua w h =
    let v = and_split (U u) (within U (executed ua t)) w in
    let k = and_split (meets φ u (roles ua u)) (all (met_by φ) (executed ua t)) h in
    by_call (by_left (by_prefix (and-join (U u) (meets φ u (roles ua u)) v.0 k.0) (go (executed ua t) refl k.1 (repeat_in φ U e t ua v.1))))
  where
    -- the last action leads to FIN
    go : (s : List Execution) → executed ua t ≡ s → So (all (met_by φ) (executed ua t)) → (So (several e (met_by φ) (executed ua t)) → Has (call (repeat φ U ua)) (ending e t))
        → Has (choice (call fin) (call (repeat φ U ua))) (ending e t)
    go [] n k ih = by_left (fin_in e t ua n)
    go (b ∷ s) n k ih = by_right (ih (ap (several e (met_by φ)) n ∙ sym (ap (all (met_by φ)) n) ∙ k))
repeat_in φ U e (add_ua u r ∷ t) ua w h = by_call (by_right (by_left (by_prefix refl (repeat_in φ U e t (grant ua u r) w h))))
repeat_in φ U e (rm_ua u r ∷ t) ua w h = by_call (by_right (by_right (by_prefix refl (repeat_in φ U e t (revoke ua u r) w h))))

repeat_out : (φ : Term) (U : Users) (e : Bool) (t : Trace) (ua : UA) → Has (call (repeat φ U ua)) (ending e t) → Told (several e (met_by φ) (executed ua t)) U (executed ua t)
unfolding ending
repeat_out φ U true [] ua h = (refl, refl)
repeat_out φ U false [] ua h = absurd (done_out φ U ua (repeat φ U) (choice (call fin) (call (repeat φ U ua))) (call_out h))
repeat_out φ U e (business u a ∷ t) ua h =
    let (v, m, f) = taken_out φ U ua (repeat φ U) (choice (call fin) (call (repeat φ U ua))) (call_out h) in
    let (l, w) = go (choice_out f) (repeat_out φ U e t ua) in
    (and-join (meets φ u (roles ua u)) (all (met_by φ) (executed ua t)) m l, and-join (U u) (within U (executed ua t)) v w)
  where
    go : Has (call fin) (ending e t) ⊎ Has (call (repeat φ U ua)) (ending e t)
        → (Has (call (repeat φ U ua)) (ending e t) → Told (several e (met_by φ) (executed ua t)) U (executed ua t)) → Told (all (met_by φ) (executed ua t)) U (executed ua t)
    go (inl x) ih = let k = fin_out e t ua x in (ap (all (met_by φ)) k, ap (within U) k)
    go (inr y) ih = let (l, w) = ih y in (several-all (met_by φ) e (executed ua t) l, w)
repeat_out φ U e (add_ua u r ∷ t) ua h = repeat_out φ U e t (grant ua u r) (added_out φ U ua (repeat φ U) (choice (call fin) (call (repeat φ U ua))) (call_out h))
repeat_out φ U e (rm_ua u r ∷ t) ua h = repeat_out φ U e t (revoke ua u r) (removed_out φ U ua (repeat φ U) (choice (call fin) (call (repeat φ U ua))) (call_out h))

-- ── who is in U ──
-- a test of users that everyone who acts passes
within_in : (U : Users) (s : List Execution) → ((u : ℕ) → So (acts who u s) → So (U u)) → So (within U s)
within_in U [] h = refl
within_in U (a ∷ s) h = and-join (U a.user) (within U s) (h a.user (or_left (eqb a.user a.user) (acts who a.user s) (eq_so a.user a.user refl)))
    (within_in U s (λ u x. h u (or_right (eqb a.user u) (acts who u s) x)))

within_out : (U : Users) (s : List Execution) → So (within U s) → (u : ℕ) → So (acts who u s) → So (U u)
within_out U [] h u x = never x
within_out U (a ∷ s) h u x =
    let k = and_split (U a.user) (within U s) h in
    elim (or_split (eqb a.user u) (acts who u s) x)
    [ inl e ↦ subst (λ v. So (U v)) (so_eq a.user u e) k.0 | inr y ↦ within_out U s k.1 u y ]

-- the parts of U that a list of actions gives: those who act in it, and the rest
cover_law : (u a : Bool) → ((u && a) || (u && not a)) ≡ u
cover_law true true = refl
cover_law true false = refl
cover_law false a = refl

apart_law : (u a : Bool) → ((u && a) && (u && not a)) ≡ false
apart_law true true = refl
apart_law true false = refl
apart_law false a = refl

abbrev parted : (U : Users) (l : List Execution) → Parts U
parted U l = record {
  one = λ u. U u && acts who u l;
  two = λ u. U u && not (acts who u l);
  cover = λ u. cover_law (U u) (acts who u l);
  apart = λ u. apart_law (U u) (acts who u l);
}

-- ── rules 3 to 6 ──
module _ (e : Bool) (ua : UA) where
  -- a process that has what a judgement says, by members of U
  abbrev pub In : (Users → P) → Judgement Execution → Type 1
  In p f = (U : Users) (t : Trace) → So (within U (executed ua t)) → So (f (executed ua t)) → Has (p U) (ending e t)

  abbrev pub Out : (Users → P) → Judgement Execution → Type 1
  Out p f = (U : Users) (t : Trace) → Has (p U) (ending e t) → Told (f (executed ua t)) U (executed ua t)

  -- the halves of a trace's actions, each by a set of users
  halves_in : (p q : Users → P) (f g : Judgement Execution) → In p f → In q g → (U W : Users) (t : Trace) (h : Halves who f g (executed ua t))
      → So (within U h.one) → So (within W h.two) → Has (parallel sync (p U) (q W)) (ending e t)
  halves_in p q f g x y U W t h v w =
      let d = split_si t ua h.split in
      by_parallel
      (x U d.one (subst (λ s. So (within U s)) (sym d.is_one) v) (subst (λ s. So (f s)) (sym d.is_one) h.for_one))
      (y W d.two (subst (λ s. So (within W s)) (sym d.is_two) w) (subst (λ s. So (g s)) (sym d.is_two) h.for_two))
      (si_merge e d.si)

  pub compose_in : (op : Op) (p q : Users → P) (f g : Judgement Execution) → In p f → In q g → In (compose op p q) (join who op f g)
  compose_in either p q f g x y U t w h = elim (or_split (f (executed ua t)) (g (executed ua t)) h) [ inl k ↦ by_left (x U t w k) | inr k ↦ by_right (y U t w k) ]
  compose_in both p q f g x y U t w h = let k = and_split (f (executed ua t)) (g (executed ua t)) h in by_parallel (x U t w k.0) (y U t w k.1) (merge-all (ending e t))
  compose_in together p q f g x y U t w h =
      let m = together_out who f g (executed ua t) h in
      halves_in p q f g x y U U t m (all_part (λ a. U a.user) m.split w) (all_part (λ a. U a.user) (split_swap m.split) w)
  compose_in apart p q f g x y U t w h =
      let (m, c) = apart_out who f g (executed ua t) h in
      let a = within_out U (executed ua t) w in
      by_some (parted U m.one) (halves_in p q f g x y (parted U m.one).one (parted U m.one).two t m
      (within_in (parted U m.one).one m.one (λ u v. and-join (U u) (acts who u m.one) (a u (acts-left who u m.split v)) v))
      (within_in (parted U m.one).two m.two (λ u v. and-join (U u) (not (acts who u m.one)) (a u (acts-left who u (split_swap m.split) v))
      (ap not (not_so (acts who u m.one) (λ z. disjoint_out who m.one m.two c u z v))))))

  -- a parallel trace taken apart
  record Sides (p q : P) (f g : Judgement Execution) (U W : Users) (t : Trace) : Type 0 where
    halves : Halves who f g (executed ua t)
    in_one : So (within U halves.one)
    in_two : So (within W halves.two)

  halves_out : (p q : Users → P) (f g : Judgement Execution) → Out p f → Out q g → (U W : Users) (t : Trace) → Has (parallel sync (p U) (q W)) (ending e t) → Sides (p U) (q W) f g U W t
  halves_out p q f g x y U W t h =
      let (l, r, j, k, m) = parallel_out h in
      let d = merge_si e t m in
      let (a, v) = x U d.one (subst (Has (p U)) d.is_one j) in
      let (b, w) = y W d.two (subst (Has (q W)) d.is_two k) in
      record { halves = record { one = executed ua d.one; two = executed ua d.two; split = si_split d.si ua; for_one = a; for_two = b }; in_one = v; in_two = w }

  pub compose_out : (op : Op) (p q : Users → P) (f g : Judgement Execution) → Out p f → Out q g → Out (compose op p q) (join who op f g)
  compose_out either p q f g x y U t h = elim (choice_out h) [
    | inl k ↦ let (a, w) = x U t k in (or_left (f (executed ua t)) (g (executed ua t)) a, w)
    | inr k ↦ let (b, w) = y U t k in (or_right (f (executed ua t)) (g (executed ua t)) b, w)
  ]
  compose_out both p q f g x y U t h =
      let (l, r, j, k, m) = parallel_out h in
      let (d₁, d₂) = all-merge m in
      let (a, w) = x U t (subst (Has (p U)) d₁ j) in
      let (b, v) = y U t (subst (Has (q U)) d₂ k) in
      (and-join (f (executed ua t)) (g (executed ua t)) a b, w)
  compose_out together p q f g x y U t h =
      let s = halves_out p q f g x y U U t h in
      (together_in who f g s.halves, all_parts (λ a. U a.user) s.halves.split s.in_one s.in_two)
  compose_out apart p q f g x y U t h =
      let (c, k) = some_out h in
      let s = halves_out p q f g x y c.one c.two t k in
      let one = within_out c.one s.halves.one s.in_one in
      let two = within_out c.two s.halves.two s.in_two in (
        apart_in who f g s.halves (disjoint_in who s.halves.one s.halves.two
            (λ u v w. false≢true (sym (c.apart u) ∙ and-join (c.one u) (c.two u) (one u v) (two u w)))),
        all_parts (λ a. U a.user) s.halves.split
            (within_in U s.halves.one (λ u v. sym (c.cover u) ∙ or_left (c.one u) (c.two u) (one u v)))
            (within_in U s.halves.two (λ u v. sym (c.cover u) ∙ or_right (c.one u) (c.two u) (two u v))),
      )

  -- ── Definition 7 ──
  pub accepts_in : (φ : Term) → In (process φ ua) (judge e φ)
  unfolding process
  accepts_in everyone U t w h = once_in everyone U e t ua w (sym (judge-unit e everyone refl (executed ua t)) ∙ h)
  accepts_in (role r) U t w h = once_in (role r) U e t ua w (sym (judge-unit e (role r) refl (executed ua t)) ∙ h)
  accepts_in (set m) U t w h = once_in (set m) U e t ua w (sym (judge-unit e (set m) refl (executed ua t)) ∙ h)
  accepts_in (¬ᵗ φ) U t w h = once_in (¬ᵗ φ) U e t ua w (sym (not-row e φ (executed ua t)) ∙ h)
  accepts_in (φ ⁺) U t w h = repeat_in φ U e t ua w (sym (judge-plus e φ (executed ua t)) ∙ h)
  accepts_in (bin op φ ψ) U t w h = go (unit (bin op φ ψ)) refl (accepts_in φ) (accepts_in ψ)
    where
      go : (b : Bool) → unit (bin op φ ψ) ≡ b → In (process φ ua) (judge e φ) → In (process ψ ua) (judge e ψ)
          → Has (cond b (call (once (bin op φ ψ) U ua)) (compose op (process φ ua) (process ψ ua) U)) (ending e t)
      go true v x y = once_in (bin op φ ψ) U e t ua w (sym (judge-unit e (bin op φ ψ) v (executed ua t)) ∙ h)
      go false v x y = compose_in op (process φ ua) (process ψ ua) (judge e φ) (judge e ψ) x y U t w (sym (judge-bin e op φ ψ (executed ua t)) ∙ h)

  pub accepts_out : (φ : Term) → Out (process φ ua) (judge e φ)
  unfolding process
  accepts_out everyone U t h = let (k, w) = once_out everyone U e t ua h in (judge-unit e everyone refl (executed ua t) ∙ k, w)
  accepts_out (role r) U t h = let (k, w) = once_out (role r) U e t ua h in (judge-unit e (role r) refl (executed ua t) ∙ k, w)
  accepts_out (set m) U t h = let (k, w) = once_out (set m) U e t ua h in (judge-unit e (set m) refl (executed ua t) ∙ k, w)
  accepts_out (¬ᵗ φ) U t h = let (k, w) = once_out (¬ᵗ φ) U e t ua h in (not-row e φ (executed ua t) ∙ k, w)
  accepts_out (φ ⁺) U t h = let (k, w) = repeat_out φ U e t ua h in (judge-plus e φ (executed ua t) ∙ k, w)
  accepts_out (bin op φ ψ) U t h = go (unit (bin op φ ψ)) refl h (accepts_out φ) (accepts_out ψ)
    where
      go : (b : Bool) → unit (bin op φ ψ) ≡ b → Has (cond b (call (once (bin op φ ψ) U ua)) (compose op (process φ ua) (process ψ ua) U)) (ending e t)
          → Out (process φ ua) (judge e φ) → Out (process ψ ua) (judge e ψ) → Told (judge e (bin op φ ψ) (executed ua t)) U (executed ua t)
      go true v k x y = let (a, w) = once_out (bin op φ ψ) U e t ua k in (judge-unit e (bin op φ ψ) v (executed ua t) ∙ a, w)
      go false v k x y = let (a, w) = compose_out op (process φ ua) (process ψ ua) (judge e φ) (judge e ψ) x y U t k in (judge-bin e op φ ψ (executed ua t) ∙ a, w)

  -- Where all who act are users, the process has the trace exactly when the table says so.
  pub judge_is_process : (φ : Term) (U : Users) (t : Trace) → So (within U (executed ua t)) → So (judge e φ (executed ua t)) ↔ Has (process φ ua U) (ending e t)
  judge_is_process φ U t w = (accepts_in φ U t w, λ h. (accepts_out φ U t h).0)
