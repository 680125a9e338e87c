-- The table over noted bits is the table over what the actions mean: the bit that the table asks for is that of the unit term
-- standing there.
use mathlib.Core.Path.{◌≡◌, refl, ◌∙◌, ap}
use mathlib.Core.Bool.{Bool, true, false, So, ◌&&◌}
use mathlib.Core.List.{List, map}
use Prim.Native.Nat.{ℕ, ◌+◌}
use Rattle.soda.specs.Bits.{bit}
use Rattle.soda.specs.Terms.{Term, everyone, role, set, ¬ᵗ◌, ◌⁺, bin, unit, well_formed, size}
use Rattle.soda.specs.Roles.{meets}
use Rattle.soda.specs.declared.Action.{Action}
use Rattle.soda.specs.Tables.{bit_table, Execution, met_by, judge, note}
use Rattle.soda.specs.Accuracy.{NotedIsMeant}
use Rattle.soda.proofs.Bools.{and_split}
use Rattle.soda.proofs.Terms.{Stands, stands_whole, stands_plus, stands_left, stands_right, bit_standing}
use Rattle.soda.proofs.Tables.{Same, table-map}

module _ (ρ : Term) where
  -- the bit of a unit term that stands at word i of the policy ρ
  noted-bit : (i : ℕ) (φ : Term) → Stands ρ i φ → So (unit φ) → (a : Execution) → bit i (note ρ a).met ≡ met_by φ a
  noted-bit i φ s u a = bit_standing (λ ψ. unit ψ && meets ψ a.user a.held) s ∙ ap (λ b. b && met_by φ a) u

  same_notes : (φ : Term) (i : ℕ) → Stands ρ i φ → So (well_formed φ) → Same (note ρ) (λ ψ j. met_by ψ) (λ ψ j b. bit j b.met) φ i i
  same_notes everyone i s w = noted-bit i everyone s refl
  same_notes (role r) i s w = noted-bit i (role r) s refl
  same_notes (set m) i s w = noted-bit i (set m) s refl
  same_notes (¬ᵗ φ) i s w = noted-bit i (¬ᵗ φ) s (and_split (unit φ) (well_formed φ) w).0
  same_notes (φ ⁺) i s w = noted-bit (1 + i) φ (stands_plus s) (and_split (unit φ) (well_formed φ) w).0
  same_notes (bin op φ ψ) i s w =
      let k = and_split (well_formed φ) (well_formed ψ) w in
      (noted-bit i (bin op φ ψ) s, same_notes φ (1 + i) (stands_left s) k.0, same_notes ψ (1 + i + size φ) (stands_right s) k.1)

  noted-table : So (well_formed ρ) → (e : Bool) (s : List Execution) → bit_table (λ (a : Action). a.user) (λ a. a.met) e ρ 0 (map (note ρ) s) ≡ judge e ρ s
  noted-table w e s = table-map (note ρ) (λ ψ j. met_by ψ) (λ ψ j b. bit j b.met) (λ a. a.user) (λ a. a.user) (λ a b. refl) e ρ 0 0 (same_notes ρ 0 (stands_whole ρ) w) s

pub noted-is_meant : NotedIsMeant
noted-is_meant φ w s = (noted-table φ w false s, noted-table φ w true s)
