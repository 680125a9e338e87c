-- The three processes together (document 004, section 5.3): SSW has what its three parts have, RBAC has what is authorized, and W has what
-- leads somewhere.
use Rattle.std.specs.Prelude.{Option, Some, None}
use mathlib.Core.Path.{◌≡◌, refl, sym, ap, ◌∙◌, subst}
use mathlib.Core.Logic.{◌↔◌, inl, inr}
use mathlib.Core.Bool.{Bool, true, false, So, not}
use mathlib.Core.List.{List, [], ◌∷◌, ◌++◌}
use Prim.Native.Nat.{ℕ}
use lib.Dec.{ltb}
use lib.ListN.{length, get_or}
use Rattle.soda.specs.Bits.{bit}
use Rattle.soda.specs.Lists.{all}
use Rattle.soda.specs.Roles.{UA, roles, grant, revoke, PA, authorized}
use Rattle.soda.specs.Traces.{business, add_ua, rm_ua, Trace}
use Rattle.soda.specs.Workflows.{Transitions, no_transition, leaves, deterministic, successor, follow, reached, is_somewhere, is_final, authorized_all}
use Rattle.soda.specs.Csp.{call, Merge, m_nil, m_both, m_left, m_right, at_stop, at_prefix, by_prefix, by_left, by_right, by_some, by_parallel, by_call}
use Rattle.soda.specs.Processes.{Symbol, event, done, rbac, work, is_done, is_admin, is_business, takes, SOD, W, RBAC, SW, SSW, without_admin, without_done, unfinished}
use Rattle.soda.specs.Secure.{SecureIsAllThree, ActionIsTakenByAll, RbacIsAuthorized, WorkflowIsReached}
use Rattle.soda.proofs.Bools.{never, and_split, and-join, lt_so, so_lt}
use Rattle.soda.proofs.Processes.{Has, stop_out, call_out, choice_out, prefix_out, some_out, parallel_out, refuses, grant_out, revoke_out, other_out, ending, ending_unfinished, ending_finished, merge-all, all-merge}
use Rattle.soda.proofs.Workflows.{leaving, successor_at}

-- ── W: the actions lead somewhere ──
work-takes : (ts : Transitions) (finals s : ℕ) {u a : ℕ} {l : List Symbol} → Has (call (work ts finals s)) (event (business u a) ∷ l)
    → (k : ℕ) × So (takes ts s k (event (business u a))) × Has (call (work ts finals (get_or ts k no_transition).next)) l
work-takes ts finals s h = elim (choice_out (call_out h)) [
  | inl x ↦ let (k, y) = some_out x in let (p, q) = prefix_out y in (k, p, q)
  | inr y ↦ absurd (refuses refl y)
]

work-ends : (ts : Transitions) (finals s : ℕ) {l : List Symbol} → Has (call (work ts finals s)) (done ∷ l) → So (bit s finals) × (l ≡ [])
work-ends ts finals s h = elim (choice_out (call_out h)) [
  | inl x ↦ absurd (refuses refl (some_out x).1)
  | inr y ↦ let (p, q) = prefix_out y in (p, stop_out q)
]

-- what a state must be at the end of a trace: any, or final with done behind the trace
abbrev arrives : Bool → ℕ → Option ℕ → Bool
arrives true finals x = is_somewhere x
arrives false finals x = is_final finals x

arrives_nowhere : (e : Bool) (finals : ℕ) → arrives e finals None ≡ false
arrives_nowhere true finals = refl
arrives_nowhere false finals = refl

work_out : (ts : Transitions) → So (deterministic ts) → (finals : ℕ) (e : Bool) (t : Trace) (s : ℕ)
    → Has (call (work ts finals s)) (without_admin (ending e t)) → So (arrives e finals (reached ts s t))
unfolding ending
work_out ts d finals true [] s h = refl
work_out ts d finals false [] s h = (work-ends ts finals s h).0
work_out ts d finals e (business u a ∷ t) s h =
    let (k, p, q) = work-takes ts finals s h in
    let (b, f) = and_split (ltb k (length ts)) (leaves s a (get_or ts k no_transition)) p in
    ap (λ x. arrives e finals (follow x (λ n. reached ts n t))) (successor_at ts s a k d (so_lt k (length ts) b) f)
    ∙ work_out ts d finals e t (get_or ts k no_transition).next q
work_out ts d finals e (add_ua u r ∷ t) s h = work_out ts d finals e t s h
work_out ts d finals e (rm_ua u r ∷ t) s h = work_out ts d finals e t s h

work_in : (ts : Transitions) (finals : ℕ) (e : Bool) (t : Trace) (s : ℕ) → So (arrives e finals (reached ts s t))
    → Has (call (work ts finals s)) (without_admin (ending e t))
unfolding ending
work_in ts finals true [] s h = by_call (by_right at_prefix)
work_in ts finals false [] s h = by_call (by_right (by_prefix h at_stop))
work_in ts finals e (business u a ∷ t) s h = go (successor ts s a) refl h (work_in ts finals e t)
  where
    go : (x : Option ℕ) → successor ts s a ≡ x → So (arrives e finals (follow x (λ n. reached ts n t)))
        → ((n : ℕ) → So (arrives e finals (reached ts n t)) → Has (call (work ts finals n)) (without_admin (ending e t)))
        → Has (call (work ts finals s)) (event (business u a) ∷ without_admin (ending e t))
    go (Some n) q h ih =
        let y = leaving ts s a n q in
        by_call (by_left (by_some y.place (by_prefix
        (and-join (ltb y.place (length ts)) (leaves s a (get_or ts y.place no_transition)) (lt_so y.place (length ts) y.inside) y.fits)
        (subst (λ (m : ℕ). Has (call (work ts finals m)) (without_admin (ending e t))) (sym y.leads_there) (ih n h)))))
    go None q h ih = never (sym (arrives_nowhere e finals) ∙ h)
work_in ts finals e (add_ua u r ∷ t) s h = work_in ts finals e t s h
work_in ts finals e (rm_ua u r ∷ t) s h = work_in ts finals e t s h

pub workflow-is-reached : WorkflowIsReached
workflow-is-reached ts finals s d t = (
  subst (λ l. Has (call (work ts finals s)) (without_admin l) ↔ So (is_somewhere (reached ts s t))) (ending_unfinished t)
      (work_out ts d finals true t s, work_in ts finals true t s),
  subst (λ l. Has (call (work ts finals s)) (without_admin l) ↔ So (is_final finals (reached ts s t))) (ending_finished t)
      (work_out ts d finals false t s, work_in ts finals false t s),
)

-- ── RBAC: each action is authorized ──
rbac_out : (pa : PA) (t : Trace) (ua : UA) → Has (call (rbac pa ua)) (unfinished t) → So (authorized_all pa ua t)
rbac_out pa [] ua h = refl
rbac_out pa (business u a ∷ t) ua h =
    let (p, q) = other_out ua (rbac pa) refl refl (call_out h) in
    and-join (authorized pa (roles ua u) a) (authorized_all pa ua t) p (rbac_out pa t ua q)
rbac_out pa (add_ua u r ∷ t) ua h = rbac_out pa t (grant ua u r) (grant_out ua (rbac pa) refl (call_out h))
rbac_out pa (rm_ua u r ∷ t) ua h = rbac_out pa t (revoke ua u r) (revoke_out ua (rbac pa) refl (call_out h))

rbac_in : (pa : PA) (t : Trace) (ua : UA) → So (authorized_all pa ua t) → Has (call (rbac pa ua)) (unfinished t)
rbac_in pa [] ua h = by_call (by_left at_prefix)
rbac_in pa (business u a ∷ t) ua h =
    let (p, q) = and_split (authorized pa (roles ua u) a) (authorized_all pa ua t) h in
    by_call (by_left (by_prefix p (rbac_in pa t ua q)))
rbac_in pa (add_ua u r ∷ t) ua h = by_call (by_right (by_left (by_prefix refl (rbac_in pa t (grant ua u r) h))))
rbac_in pa (rm_ua u r ∷ t) ua h = by_call (by_right (by_right (by_prefix refl (rbac_in pa t (revoke ua u r) h))))

ending_undone : (e : Bool) (t : Trace) → without_done (ending e t) ≡ unfinished t
unfolding ending
ending_undone true [] = refl
ending_undone false [] = refl
ending_undone e (s ∷ t) = ap (λ l. event s ∷ l) (ending_undone e t)

pub rbac-is-authorized : RbacIsAuthorized
rbac-is-authorized ua pa t = (
  subst (λ l. Has (RBAC ua pa) l ↔ So (authorized_all pa ua t)) (sym (ending_undone true t) ∙ ap without_done (ending_unfinished t)) is,
  subst (λ l. Has (RBAC ua pa) l ↔ So (authorized_all pa ua t)) (sym (ending_undone false t) ∙ ap without_done (ending_finished t)) is,
)
  where
    is : Has (RBAC ua pa) (unfinished t) ↔ So (authorized_all pa ua t)
    is = (rbac_out pa t ua, rbac_in pa t ua)

-- ── the three together ──
-- W has no admin event, RBAC no done
work_unadministered : (ts : Transitions) (finals : ℕ) (l : List Symbol) (s : ℕ) → Has (call (work ts finals s)) l
    → So (all (λ e. not (is_admin e)) l)
work_unadministered ts finals [] s h = refl
work_unadministered ts finals (done ∷ l) s h = ap (all (λ e. not (is_admin e))) (work-ends ts finals s h).1
work_unadministered ts finals (event (business u a) ∷ l) s h =
    let (k, p, q) = work-takes ts finals s h in
    work_unadministered ts finals l (get_or ts k no_transition).next q
work_unadministered ts finals (event (add_ua u r) ∷ l) s h =
    elim (choice_out (call_out h)) [ inl x ↦ absurd (refuses refl (some_out x).1) | inr y ↦ absurd (refuses refl y) ]
work_unadministered ts finals (event (rm_ua u r) ∷ l) s h =
    elim (choice_out (call_out h)) [ inl x ↦ absurd (refuses refl (some_out x).1) | inr y ↦ absurd (refuses refl y) ]

rbac_undone : (pa : PA) (l : List Symbol) (ua : UA) → Has (call (rbac pa ua)) l → So (all (λ e. not (is_done e)) l)
rbac_undone pa [] ua h = refl
rbac_undone pa (done ∷ l) ua h = never (other_out ua (rbac pa) refl refl (call_out h)).0
rbac_undone pa (event (business u a) ∷ l) ua h = rbac_undone pa l ua (other_out ua (rbac pa) refl refl (call_out h)).1
rbac_undone pa (event (add_ua u r) ∷ l) ua h = rbac_undone pa l (grant ua u r) (grant_out ua (rbac pa) refl (call_out h))
rbac_undone pa (event (rm_ua u r) ∷ l) ua h = rbac_undone pa l (revoke ua u r) (revoke_out ua (rbac pa) refl (call_out h))

-- W and RBAC merged have business events in common, done is W's and an admin event RBAC's
parts_merge : (l : List Symbol) → Merge is_business l (without_admin l) (without_done l)
parts_merge [] = m_nil
parts_merge (done ∷ l) = m_left refl (parts_merge l)
parts_merge (event (business u a) ∷ l) = m_both refl (parts_merge l)
parts_merge (event (add_ua u r) ∷ l) = m_right refl (parts_merge l)
parts_merge (event (rm_ua u r) ∷ l) = m_right refl (parts_merge l)

merge_parts : {t l r : List Symbol} → Merge is_business t l r → So (all (λ e. not (is_admin e)) l) → So (all (λ e. not (is_done e)) r)
    → (l ≡ without_admin t) × (r ≡ without_done t)
merge_parts m_nil x y = (refl, refl)
merge_parts (m_both {e = event (business u a)} h m) x y =
    let (p, q) = merge_parts m x y in
    (ap (λ k. event (business u a) ∷ k) p, ap (λ k. event (business u a) ∷ k) q)
merge_parts (m_both {e = event (add_ua u r)} h m) x y = never h
merge_parts (m_both {e = event (rm_ua u r)} h m) x y = never h
merge_parts (m_both {e = done} h m) x y = never h
merge_parts (m_left {e = event (business u a)} h m) x y = never h
merge_parts (m_left {e = event (add_ua u r)} h m) x y = never x
merge_parts (m_left {e = event (rm_ua u r)} h m) x y = never x
merge_parts (m_left {e = done} h m) x y = let (p, q) = merge_parts m x y in (ap (λ k. done ∷ k) p, q)
merge_parts (m_right {e = event (business u a)} h m) x y = never h
merge_parts (m_right {e = event (add_ua u r)} h m) x y = let (p, q) = merge_parts m x y in (p, ap (λ k. event (add_ua u r) ∷ k) q)
merge_parts (m_right {e = event (rm_ua u r)} h m) x y = let (p, q) = merge_parts m x y in (p, ap (λ k. event (rm_ua u r) ∷ k) q)
merge_parts (m_right {e = done} h m) x y = never y

-- SW has a trace exactly when W and RBAC each have their part of it
pub secure-workflow-is-both : (ts : Transitions) (finals : ℕ) (ua : UA) (pa : PA) (l : List Symbol)
    → Has (SW ts finals ua pa) l ↔ (Has (W ts finals) (without_admin l) × Has (RBAC ua pa) (without_done l))
secure-workflow-is-both ts finals ua pa l = (out, λ h. by_parallel h.0 h.1 (parts_merge l))
  where
    out : Has (SW ts finals ua pa) l → Has (W ts finals) (without_admin l) × Has (RBAC ua pa) (without_done l)
    out h =
        let (a, b, w, r, m) = parallel_out h in
        let (p, q) = merge_parts m (work_unadministered ts finals a _ w) (rbac_undone pa b ua r) in
        (subst (Has (W ts finals)) p w, subst (Has (RBAC ua pa)) q r)

pub secure-is-all_three : SecureIsAllThree
secure-is-all_three φ n ts finals ua pa l = (out, λ h. by_parallel ((secure-workflow-is-both ts finals ua pa l).1 (h.0, h.1)) h.2 (merge-all l))
  where
    out : Has (SSW φ n ts finals ua pa) l → Has (W ts finals) (without_admin l) × Has (RBAC ua pa) (without_done l) × Has (SOD φ n ua) l
    out h =
        let (a, b, k, s, m) = parallel_out h in
        let (e, f) = all-merge m in
        let (w, r) = (secure-workflow-is-both ts finals ua pa l).0 (subst (Has (SW ts finals ua pa)) e k) in
        (w, r, subst (Has (SOD φ n ua)) f s)

-- an action stays in both parts
action-left : (l : List Symbol) (u a : ℕ) → without_admin (l ++ (event (business u a) ∷ [])) ≡ without_admin l ++ (event (business u a) ∷ [])
action-left [] u a = refl
action-left (done ∷ l) u a = ap (λ k. done ∷ k) (action-left l u a)
action-left (event (business v b) ∷ l) u a = ap (λ k. event (business v b) ∷ k) (action-left l u a)
action-left (event (add_ua v r) ∷ l) u a = action-left l u a
action-left (event (rm_ua v r) ∷ l) u a = action-left l u a

action-right : (l : List Symbol) (u a : ℕ) → without_done (l ++ (event (business u a) ∷ [])) ≡ without_done l ++ (event (business u a) ∷ [])
action-right [] u a = refl
action-right (done ∷ l) u a = action-right l u a
action-right (event e ∷ l) u a = ap (λ k. event e ∷ k) (action-right l u a)

pub action-is-taken_by_all : ActionIsTakenByAll
action-is-taken_by_all φ n ts finals ua pa l u a =
    rw (← action-left l u a, ← action-right l u a) (secure-is-all_three φ n ts finals ua pa (l ++ (event (business u a) ∷ [])))
