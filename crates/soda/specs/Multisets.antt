-- Multisets of users (document 004, section 2) and multiset satisfaction (Definition 3, with rule 4 as document 02's E3 replaces it).
use Rattle.std.specs.Prelude.{◌≡◌, not, cond, List, [], ◌∷◌, ℕ, ◌+◌, min, eqb}
use Rattle.std.proofs.Math.Bool.{So}
use Rattle.soda.specs.Bits.{bit}
use Rattle.soda.specs.Terms.{Term, everyone, role, set, ¬ᵗ◌, ◌⁺, ◌⊔ᵗ◌, ◌⊓ᵗ◌, ◌⊙◌, ◌⊗◌, unit}
use Rattle.soda.specs.Roles.{UA, roles, holds_role, meets}

-- A multiset says how often each user occurs (01: bag).
abbrev pub Multiset : Type 0
Multiset = ℕ → ℕ

abbrev pub ∅ᵐ : Multiset
∅ᵐ = λ p. 0

-- {u}
abbrev pub singleton : ℕ → Multiset
singleton u = λ p. cond (eqb u p) 1 0

-- the sum adds the counts, the intersection takes the lesser one
infixl 40 ◌⊎ᵐ◌
infixl 45 ◌∩ᵐ◌
abbrev pub ◌⊎ᵐ◌ : Multiset → Multiset → Multiset
U ⊎ᵐ W = λ p. U p + W p

abbrev pub ◌∩ᵐ◌ : Multiset → Multiset → Multiset
U ∩ᵐ W = λ p. min (U p) (W p)

-- the multiset of a list of users
abbrev pub multiset : List ℕ → Multiset
multiset [] = ∅ᵐ
multiset (u ∷ s) = singleton u ⊎ᵐ multiset s

-- Definition 3: U satisfies φ with respect to UA. One constructor for each rule. Plus and not take unit terms (Definition 2).
-- Rule 4 is the one that document 02's E3 puts in its place: u holds a role, and {u} does not satisfy φ. The paper's rule, "{u} ⊭ φ gives
-- {u} ⊨ ¬φ", has the second premise alone. It is negative, which no inductive relation may have of itself: so it asks `meets`, and the
-- statement `Rule4` of Accuracy is the rule in the paper's form.
pub data SatM (ua : UA) : Multiset → Term → Type 0 where
  r1 : (u : ℕ) → So (holds_role (roles ua u)) → SatM ua (singleton u) everyone
  r2 : (u r : ℕ) → So (bit r (roles ua u)) → SatM ua (singleton u) (role r)
  r3 : (u m : ℕ) → So (bit u m) → So (holds_role (roles ua u)) → SatM ua (singleton u) (set m)
  r4 : (u : ℕ) {φ : Term} → So (unit φ) → So (holds_role (roles ua u)) → So (not (meets φ u (roles ua u))) → SatM ua (singleton u) (¬ᵗ φ)
  r5 : (u : ℕ) {φ : Term} → So (unit φ) → SatM ua (singleton u) φ → SatM ua (singleton u) (φ ⁺)
  r6 : (u : ℕ) {U : Multiset} {φ : Term} → So (unit φ) → SatM ua (singleton u) φ → SatM ua U (φ ⁺) → SatM ua (singleton u ⊎ᵐ U) (φ ⁺)
  r7 : {U : Multiset} {φ ψ : Term} → SatM ua U φ → SatM ua U (φ ⊔ᵗ ψ)
  r8 : {U : Multiset} {φ ψ : Term} → SatM ua U ψ → SatM ua U (φ ⊔ᵗ ψ)
  r9 : {U : Multiset} {φ ψ : Term} → SatM ua U φ → SatM ua U ψ → SatM ua U (φ ⊓ᵗ ψ)
  r10 : {U W : Multiset} {φ ψ : Term} → SatM ua U φ → SatM ua W ψ → SatM ua (U ⊎ᵐ W) (φ ⊙ ψ)
  r11 : {U W : Multiset} {φ ψ : Term} → SatM ua U φ → SatM ua W ψ → U ∩ᵐ W ≡ ∅ᵐ → SatM ua (U ⊎ᵐ W) (φ ⊗ ψ)
