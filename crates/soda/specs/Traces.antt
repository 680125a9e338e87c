-- Traces of business and admin events, and trace satisfaction (document 004, sections 3.1 and 3.2, Definitions 4 to 6).
use Rattle.std.specs.Prelude.{◌≡◌, Bool, true, false, not, ◌&&◌, List, [], ◌∷◌, ◌++◌, map, ℕ, ltb}
use Rattle.std.proofs.Math.Bool.{So}
use Rattle.soda.specs.Terms.{Term, ◌⁺, ◌⊔ᵗ◌, ◌⊓ᵗ◌, ◌⊙◌, ◌⊗◌, unit}
use Rattle.soda.specs.Roles.{UA, roles, grant, revoke}
use Rattle.soda.specs.declared.Action.{Action}
use Rattle.soda.specs.Tables.{Execution, note}
use Rattle.soda.specs.Multisets.{Multiset, ∅ᵐ, singleton, ◌⊎ᵐ◌, ◌∩ᵐ◌, SatM}

-- bc.u.a: user u executes action a. ac.add_ua.u.r and ac.rm_ua.u.r: role r is granted to user u, or revoked.
pub data Event : Type 0 where
  business add_ua rm_ua : ℕ → ℕ → Event

-- a trace in (E_B ∪ E_A)*
abbrev pub Trace : Type 0
Trace = List Event

-- E_A
abbrev pub admin : Event → Bool
admin (business u a) = false
admin (add_ua u r) = true
admin (rm_ua u r) = true

-- a trace in E_B*
abbrev pub business_only : Trace → Bool
business_only [] = true
business_only (e ∷ t) = not (admin e) && business_only t

-- what one event does to the user assignment; Definition 4
abbrev pub after : UA → Event → UA
after ua (business u a) = ua
after ua (add_ua u r) = grant ua u r
after ua (rm_ua u r) = revoke ua u r

abbrev pub upd : UA → Trace → UA
upd ua [] = ua
upd ua (e ∷ t) = upd (after ua e) t

-- users(t), the multiset of the users in a trace's business events
abbrev pub users : Trace → Multiset
users [] = ∅ᵐ
users (business u a ∷ t) = singleton u ⊎ᵐ users t
users (add_ua u r ∷ t) = users t
users (rm_ua u r ∷ t) = users t

-- only the users numbered below n act
abbrev pub acted_below : ℕ → Trace → Bool
acted_below n [] = true
acted_below n (business u a ∷ t) = ltb u n && acted_below n t
acted_below n (add_ua u r ∷ t) = acted_below n t
acted_below n (rm_ua u r ∷ t) = acted_below n t

-- The actions of a trace, each with the roles that its user held then; and what the product keeps of them under the policy φ.
abbrev pub execution : UA → ℕ → Execution
execution ua u = record { user = u; held = roles ua u }

abbrev pub executed : UA → Trace → List Execution
executed ua [] = []
executed ua (business u a ∷ t) = execution ua u ∷ executed ua t
executed ua (add_ua u r ∷ t) = executed (grant ua u r) t
executed ua (rm_ua u r ∷ t) = executed (revoke ua u r) t

abbrev pub noted : Term → UA → Trace → List Action
noted φ ua t = map (note φ) (executed ua t)

-- Definition 5: si(t, t₁, t₂). An admin event of t is in both parts, a business event in one of them.
pub data Si : Trace → Trace → Trace → Type 0 where
  si_nil : Si [] [] []
  si_both : {a : Event} {t t₁ t₂ : Trace} → So (admin a) → Si t t₁ t₂ → Si (a ∷ t) (a ∷ t₁) (a ∷ t₂)
  si_left : {b : Event} {t t₁ t₂ : Trace} → So (not (admin b)) → Si t t₁ t₂ → Si (b ∷ t) (b ∷ t₁) t₂
  si_right : {b : Event} {t t₁ t₂ : Trace} → So (not (admin b)) → Si t t₁ t₂ → Si (b ∷ t) t₁ (b ∷ t₂)

-- Definition 6: t satisfies φ with respect to UA. One constructor for each rule.
pub data SatT : UA → Trace → Term → Type 0 where
  t1 : {ua : UA} {u a : ℕ} {φ : Term} → So (unit φ) → SatM ua (singleton u) φ → SatT ua (business u a ∷ []) φ
  t2 : {ua : UA} {t : Trace} (a : Event) {φ : Term} → So (admin a) → SatT ua t φ → SatT ua (t ++ (a ∷ [])) φ
  t3 : {ua : UA} {t : Trace} {u r : ℕ} {φ : Term} → SatT (grant ua u r) t φ → SatT ua (add_ua u r ∷ t) φ
  t4 : {ua : UA} {t : Trace} {u r : ℕ} {φ : Term} → SatT (revoke ua u r) t φ → SatT ua (rm_ua u r ∷ t) φ
  t5 : {ua : UA} {u a : ℕ} {φ : Term} → So (unit φ) → SatT ua (business u a ∷ []) φ → SatT ua (business u a ∷ []) (φ ⁺)
  t6 : {ua : UA} {u a : ℕ} {t : Trace} {φ : Term} → So (unit φ) → SatT ua (business u a ∷ []) φ → SatT ua t (φ ⁺) → SatT ua (business u a ∷ t) (φ ⁺)
  t7 : {ua : UA} {t : Trace} {φ ψ : Term} → SatT ua t φ → SatT ua t (φ ⊔ᵗ ψ)
  t8 : {ua : UA} {t : Trace} {φ ψ : Term} → SatT ua t ψ → SatT ua t (φ ⊔ᵗ ψ)
  t9 : {ua : UA} {t : Trace} {φ ψ : Term} → SatT ua t φ → SatT ua t ψ → SatT ua t (φ ⊓ᵗ ψ)
  t10 : {ua : UA} {t t₁ t₂ : Trace} {φ ψ : Term} → SatT ua t₁ φ → SatT ua t₂ ψ → Si t t₁ t₂ → SatT ua t (φ ⊙ ψ)
  t11 : {ua : UA} {t t₁ t₂ : Trace} {φ ψ : Term} → SatT ua t₁ φ → SatT ua t₂ ψ → Si t t₁ t₂ → users t₁ ∩ᵐ users t₂ ≡ ∅ᵐ → SatT ua t (φ ⊗ ψ)
