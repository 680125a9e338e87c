-- Nothing follows done in a trace of a process: done is synchronised everywhere, and FIN stops behind it.
use mathlib.Core.Path.{◌≡◌, refl, sym, ap, ◌∙◌, subst}
use mathlib.Core.Logic.{inl, inr}
use mathlib.Core.Bool.{Bool, true, false, So, cond}
use mathlib.Core.List.{List, [], ◌∷◌, ◌++◌}
use Rattle.soda.specs.Terms.{Op, either, both, together, apart, Term, everyone, role, set, ¬ᵗ◌, ◌⁺, bin, unit}
use Rattle.soda.specs.Roles.{UA, grant, revoke}
use Rattle.soda.specs.Traces.{business, add_ua, rm_ua, Trace}
use Rattle.soda.specs.Csp.{choice, call, Merge, m_nil, m_both, m_left, m_right}
use Rattle.soda.specs.Processes.{Symbol, event, done, Users, P, fin, once, repeat, sync, compose, process, finished}
use Rattle.soda.specs.Accuracy.{NothingFollowsDone}
use Rattle.soda.proofs.Bools.{never}
use Rattle.soda.proofs.Processes.{Has, stop_out, call_out, choice_out, prefix_out, some_out, parallel_out, refuses, done_out, taken_out, added_out, removed_out, all-merge}

-- done is the last symbol, if it occurs
abbrev pub proper : List Symbol → Bool
proper [] = true
proper (event s ∷ l) = proper l
proper (done ∷ []) = true
proper (done ∷ s ∷ l) = false

fin_proper : (l : List Symbol) → Has (call fin) l → So (proper l)
fin_proper [] h = refl
fin_proper (done ∷ l) h = elim (choice_out (call_out h)) [ inl x ↦ ap (λ t. proper (done ∷ t)) (stop_out (prefix_out x).1) | inr y ↦ absurd (refuses refl y) ]
fin_proper (event s ∷ l) h = elim (choice_out (call_out h)) [ inl x ↦ absurd (refuses refl x) | inr y ↦ fin_proper l (prefix_out y).1 ]

once_proper : (φ : Term) (U : Users) (l : List Symbol) (ua : UA) → Has (call (once φ U ua)) l → So (proper l)
once_proper φ U [] ua h = refl
once_proper φ U (done ∷ l) ua h = absurd (done_out φ U ua (once φ U) (call fin) (call_out h))
once_proper φ U (event (business u a) ∷ l) ua h = fin_proper l (taken_out φ U ua (once φ U) (call fin) (call_out h)).2
once_proper φ U (event (add_ua u r) ∷ l) ua h = once_proper φ U l (grant ua u r) (added_out φ U ua (once φ U) (call fin) (call_out h))
once_proper φ U (event (rm_ua u r) ∷ l) ua h = once_proper φ U l (revoke ua u r) (removed_out φ U ua (once φ U) (call fin) (call_out h))

repeat_proper : (φ : Term) (U : Users) (l : List Symbol) (ua : UA) → Has (call (repeat φ U ua)) l → So (proper l)
repeat_proper φ U [] ua h = refl
repeat_proper φ U (done ∷ l) ua h = absurd (done_out φ U ua (repeat φ U) (choice (call fin) (call (repeat φ U ua))) (call_out h))
repeat_proper φ U (event (business u a) ∷ l) ua h =
    elim (choice_out (taken_out φ U ua (repeat φ U) (choice (call fin) (call (repeat φ U ua))) (call_out h)).2)
    [ inl x ↦ fin_proper l x | inr y ↦ repeat_proper φ U l ua y ]
repeat_proper φ U (event (add_ua u r) ∷ l) ua h = repeat_proper φ U l (grant ua u r) (added_out φ U ua (repeat φ U) (choice (call fin) (call (repeat φ U ua))) (call_out h))
repeat_proper φ U (event (rm_ua u r) ∷ l) ua h = repeat_proper φ U l (revoke ua u r) (removed_out φ U ua (repeat φ U) (choice (call fin) (call (repeat φ U ua))) (call_out h))

-- a merge of two traces that end so ends so
merge_proper : {t l r : List Symbol} → Merge sync t l r → So (proper l) → So (proper r) → So (proper t)
merge_proper m_nil h k = refl
merge_proper (m_both {e = event s} x m) h k = merge_proper m h k
merge_proper (m_both {e = done} x m_nil) h k = refl
merge_proper (m_both {e = done} x (m_both y m)) h k = never h
merge_proper (m_both {e = done} x (m_left y m)) h k = never h
merge_proper (m_both {e = done} x (m_right y m)) h k = never k
merge_proper (m_left {e = event s} x m) h k = merge_proper m h k
merge_proper (m_left {e = done} x m) h k = never x
merge_proper (m_right {e = event s} x m) h k = merge_proper m h k
merge_proper (m_right {e = done} x m) h k = never x

abbrev pub Ends : (Users → P) → Type 1
Ends p = (U : Users) (l : List Symbol) → Has (p U) l → So (proper l)

pub compose_proper : (op : Op) (p q : Users → P) → Ends p → Ends q → Ends (compose op p q)
compose_proper either p q x y U l h = elim (choice_out h) [ inl k ↦ x U l k | inr k ↦ y U l k ]
compose_proper both p q x y U l h = let (a, b, j, k, m) = parallel_out h in subst (λ t. So (proper t)) (all-merge m).0 (x U a j)
compose_proper together p q x y U l h = let (a, b, j, k, m) = parallel_out h in merge_proper m (x U a j) (y U b k)
compose_proper apart p q x y U l h =
    let (c, g) = some_out h in
    let (a, b, j, k, m) = parallel_out g in
    merge_proper m (x c.one a j) (y c.two b k)

pub process_proper : (φ : Term) (ua : UA) → Ends (process φ ua)
unfolding process
process_proper everyone ua U l h = once_proper everyone U l ua h
process_proper (role r) ua U l h = once_proper (role r) U l ua h
process_proper (set m) ua U l h = once_proper (set m) U l ua h
process_proper (¬ᵗ φ) ua U l h = once_proper (¬ᵗ φ) U l ua h
process_proper (φ ⁺) ua U l h = repeat_proper φ U l ua h
process_proper (bin op φ ψ) ua U l h = go (unit (bin op φ ψ)) h (process_proper φ ua) (process_proper ψ ua)
  where
    go : (b : Bool) → Has (cond b (call (once (bin op φ ψ) U ua)) (compose op (process φ ua) (process ψ ua) U)) l → Ends (process φ ua) → Ends (process ψ ua) → So (proper l)
    go true k x y = once_proper (bin op φ ψ) U l ua k
    go false k x y = compose_proper op (process φ ua) (process ψ ua) x y U l k

improper : (t : Trace) (s : Symbol) (l : List Symbol) → proper (finished t ++ (s ∷ l)) ≡ false
improper [] s l = refl
improper (e ∷ t) s l = improper t s l

pub nothing_follows_done : NothingFollowsDone
nothing_follows_done φ ua U t s l h = never (sym (improper t s l) ∙ process_proper φ ua U (finished t ++ (s ∷ l)) h)
