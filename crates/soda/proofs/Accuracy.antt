-- The accuracy theorems: document 01's table says what Definitions 3, 6 and 7 of document 004 say.
use mathlib.Core.Path.{◌≡◌, refl, sym, ap, subst, ◌∙◌}
use mathlib.Core.Logic.{◌↔◌}
use mathlib.Core.Bool.{Bool, true, false, So}
use mathlib.Core.List.{List, [], ◌∷◌}
pub use mathlib.Core.List.{map-map}
use Prim.Native.Nat.{ℕ}
use lib.Dec.{ltb}
use Rattle.soda.specs.Roles.{UA, grant, revoke}
use Rattle.soda.specs.Tables.{satisfied, judge, note}
use Rattle.soda.specs.Multisets.{Multiset, singleton, multiset, ◌⊎ᵐ◌, SatM}
use Rattle.soda.specs.Traces.{business, add_ua, rm_ua, business_only, Trace, users, acted_below, execution, executed}
use Rattle.soda.specs.Csp.{Accepts}
use Rattle.soda.specs.Processes.{body, SOD}
use Rattle.soda.specs.Accuracy.{PossibleIsProcess, SatisfiedIsTrace, SatisfiedIsMultiset, SatisfiedIsUsers, Theorem1}
use Rattle.soda.proofs.Bools.{never, and_split, and-join}
use Rattle.soda.proofs.Notes.{noted-is_meant}
use Rattle.soda.proofs.Multisets.{seen, judge-is-multiset}
use Rattle.soda.proofs.Traces.{judge-is_trace}
use Rattle.soda.proofs.Processes.{within, ending_unfinished, ending_finished, judge_is_process}

-- a test replaced by an equal one
along {ℓ} : {a b : Bool} {X : Type ℓ} → a ≡ b → So b ↔ X → So a ↔ X
along e k = (λ x. k.0 (sym e ∙ x), λ y. e ∙ k.1 y)

acted_within : (n : ℕ) (t : Trace) (ua : UA) → So (acted_below n t) → So (within (λ u. ltb u n) (executed ua t))
acted_within n [] ua h = refl
acted_within n (business u a ∷ t) ua h =
    let k = and_split (ltb u n) (acted_below n t) h in and-join (ltb u n) (within (λ v. ltb v n) (executed ua t)) k.0 (acted_within n t ua k.1)
acted_within n (add_ua u r ∷ t) ua h = acted_within n t (grant ua u r) h
acted_within n (rm_ua u r ∷ t) ua h = acted_within n t (revoke ua u r) h

pub possible-is-process : PossibleIsProcess
possible-is-process φ w n ua t h = along (noted-is_meant φ w (executed ua t)).1
    (subst (λ s. So (judge true φ (executed ua t)) ↔ Accepts body (SOD φ n ua) s) (ending_unfinished t) (judge_is_process true ua φ (λ u. ltb u n) t (acted_within n t ua h)))

pub satisfied-is_trace : SatisfiedIsTrace
satisfied-is_trace φ w ua t = along (noted-is_meant φ w (executed ua t)).0 (judge-is_trace φ w ua t)

pub theorem_1 : Theorem1
theorem_1 φ w n ua t h =
    let p = subst (λ s. So (judge false φ (executed ua t)) ↔ Accepts body (SOD φ n ua) s) (ending_finished t) (judge_is_process false ua φ (λ u. ltb u n) t (acted_within n t ua h)) in
    let q = judge-is_trace φ w ua t in
    (λ x. q.0 (p.1 x), λ y. p.0 (q.1 y))

pub satisfied-is-users : SatisfiedIsUsers
satisfied-is-users φ w ua s = subst (λ l. So (satisfied φ 0 l) ↔ SatM ua (multiset s) φ) (map-map (note φ) (execution ua) s)
    (along (noted-is_meant φ w (seen ua s)).0 (judge-is-multiset φ w ua s))

-- the users of a trace's business events, in their order
acting : Trace → List ℕ
acting [] = []
acting (business u a ∷ t) = u ∷ acting t
acting (add_ua u r ∷ t) = acting t
acting (rm_ua u r ∷ t) = acting t

executed-acting : (ua : UA) (t : Trace) → So (business_only t) → executed ua t ≡ seen ua (acting t)
unfolding acting
executed-acting ua [] h = refl
executed-acting ua (business u a ∷ t) h = ap (λ l. execution ua u ∷ l) (executed-acting ua t h)
executed-acting ua (add_ua u r ∷ t) h = never h
executed-acting ua (rm_ua u r ∷ t) h = never h

users-acting : (t : Trace) → multiset (acting t) ≡ users t
unfolding acting
users-acting [] = refl
users-acting (business u a ∷ t) = ap (λ (m : Multiset). singleton u ⊎ᵐ m) (users-acting t)
users-acting (add_ua u r ∷ t) = users-acting t
users-acting (rm_ua u r ∷ t) = users-acting t

pub satisfied-is-multiset : SatisfiedIsMultiset
satisfied-is-multiset φ w ua t h = along ((noted-is_meant φ w (executed ua t)).0 ∙ ap (judge false φ) (executed-acting ua t h))
    (subst (λ m. So (judge false φ (seen ua (acting t))) ↔ SatM ua m φ) (users-acting t) (judge-is-multiset φ w ua (acting t)))
