-- Satisfied and possible (document 01, the table under that heading): facts about the taken actions and a term.
use Rattle.std.specs.Prelude.{Bool, true, false, not, ◌&&◌, ◌||◌, cond, List, [], ◌∷◌, ℕ, ◌+◌, eqb}
use Rattle.soda.specs.Bits.{bit}
use Rattle.soda.specs.Lists.{any, all, splits}
use Rattle.soda.specs.Terms.{Op, either, both, together, apart, Term, everyone, role, set, ¬ᵗ◌, ◌⁺, bin, unit, size, marks}
use Rattle.soda.specs.Roles.{meets}
use Rattle.soda.specs.declared.Action.{Action}

-- The two columns differ for the empty set alone. It satisfies nothing, and is possible for every term: e says which.
module _ {A : Type 0} where
  -- row "unit": one action that met the term
  abbrev pub single : Bool → (A → Bool) → List A → Bool
  single e met [] = e
  single e met (a ∷ []) = met a
  single e met (a ∷ b ∷ s) = false

  -- row "plus": all actions met the inner term
  abbrev pub several : Bool → (A → Bool) → List A → Bool
  several e met [] = e
  several e met (a ∷ s) = all met (a ∷ s)

module _ {A : Type 0} (user : A → ℕ) where
  -- user u acts in s
  abbrev pub acts : ℕ → List A → Bool
  acts u s = any (λ a. eqb (user a) u) s

  -- no user acts in both
  abbrev pub disjoint : List A → List A → Bool
  disjoint s t = all (λ a. not (acts (user a) t)) s

  -- rows "either", "both", "together" and "apart", from the judgements of the two sides
  abbrev pub join : Op → (List A → Bool) → (List A → Bool) → List A → Bool
  join either f g s = f s || g s
  join both f g s = f s && g s
  join together f g s = any (λ p. f p.0 && g p.1) (splits s)
  join apart f g s = any (λ p. disjoint p.0 p.1 && (f p.0 && g p.1)) (splits s)

  -- The table, over any kind of action that has a user and tells whether it met a unit term whose first word stands at a place.
  -- The term's own first word stands at place i. The first row that fits decides: a unit either or both goes by row "unit".
  module _ (met : Term → ℕ → A → Bool) where
    unfoldable pub table : Bool → Term → ℕ → List A → Bool
    table e everyone i s = single e (met everyone i) s
    table e (role r) i s = single e (met (role r) i) s
    table e (set m) i s = single e (met (set m) i) s
    table e (¬ᵗ φ) i s = single e (met (¬ᵗ φ) i) s
    table e (φ ⁺) i s = several e (met φ (1 + i)) s
    table e (bin op φ ψ) i s =
        cond (unit (bin op φ ψ)) (single e (met (bin op φ ψ) i) s)
        (join op (table e φ (1 + i)) (table e ψ (1 + i + size φ)) s)

  -- the same over actions that keep noted bits: bit i for the unit term at word i
  abbrev pub bit_table : (A → ℕ) → Bool → Term → ℕ → List A → Bool
  bit_table bits = table (λ φ i a. bit i (bits a))

-- over the actions that the product keeps
abbrev pub satisfied : Term → ℕ → List Action → Bool
satisfied = bit_table (λ a. a.user) (λ a. a.met) false

abbrev pub possible : Term → ℕ → List Action → Bool
possible = bit_table (λ a. a.user) (λ a. a.met) true

-- What an action means: its user, and the set of the roles that the user held when it was executed.
pub record Execution : Type 0 where
  pub user : ℕ
  pub held : ℕ

abbrev pub met_by : Term → Execution → Bool
met_by φ a = meets φ a.user a.held

-- the table over what actions mean; a term's place plays no part in it
abbrev pub judge : Bool → Term → List Execution → Bool
judge e φ s = table (λ a. a.user) (λ ψ i. met_by ψ) e φ 0 s

-- For each word that begins a unit term, whether the user met it (01, "Sheets and events"): bit i for word i.
abbrev pub met_bits : Term → ℕ → ℕ → ℕ
met_bits φ u h = marks (λ ψ. unit ψ && meets ψ u h) φ

-- what the product keeps of an action under the policy φ
abbrev pub note : Term → Execution → Action
note φ a = record { user = a.user; met = met_bits φ a.user a.held }
