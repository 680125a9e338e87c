-- In a filled workspace the mask of all n actions is 2^n - 1, and bit 0 of its two words says whether they satisfy the policy and
-- whether they are possible.
use mathlib.Core.Path.{◌≡◌, refl, ap, ap₂, ◌∙◌}
use mathlib.Core.Bool.{Bool, true, false}
use mathlib.Core.List.{List, [], ◌∷◌}
use Prim.Native.Nat.{ℕ, suc, ◌-◌, ◌/◌, ◌%◌, ◌^◌}
use native.Mathlib.Nat.{pow-suc}
use native.Mathlib.Omega.{arith}
use lib.Dec.{eqb}
use lib.ListN.{length}
use lib.Pow.{pow_pos}
use Rattle.soda.specs.Bits.{bit}
use Rattle.soda.specs.Terms.{Term}
use Rattle.soda.specs.Tables.{bit_table}
use Rattle.soda.proofs.Terms.{size_pos, first-term}
use Rattle.soda.specs.declared.Action.{Action}
use Rattle.workspace.specs.Workspace.{select, judged, row_of, WholeIsRead}
use Rattle.workspace.proofs.Columns.{word-is-row, bit-is-judged}

-- all actions
all_ones : (n : ℕ) → bit 0 (2 ^ suc n - 1) ≡ true
all_ones n = let e : (2 ^ suc n - 1) / 1 % 2 ≡ 1 = omega (arith, pow-suc 2 n, pow_pos n) in ap (λ (k : ℕ). eqb k 1) e

half-ones : (n : ℕ) → (2 ^ suc n - 1) / 2 ≡ 2 ^ n - 1
half-ones n = omega (arith, pow-suc 2 n, pow_pos n)

pub select-all : {A : Type 0} (l : List A) → select (2 ^ length l - 1) l ≡ l
select-all [] = refl
select-all (a ∷ l) = rw (all_ones (length l), half-ones (length l), select-all l)

-- what a column says of all actions
abbrev verdict_of : Bool → Term → List Action → Bool
verdict_of e φ l = bit_table (λ a. a.user) (λ a. a.met) e φ 0 l

-- the row of all actions: bit 0 is the whole policy
pub row_whole : (e : Bool) (φ : Term) (l : List Action) → bit 0 (row_of e φ l (2 ^ length l - 1)) ≡ verdict_of e φ l
unfolding judged
row_whole e φ l =
    let s = 2 ^ length l - 1 in
    bit-is-judged e φ l s 0 (size_pos φ) ∙ ap₂ (λ ψ k. verdict_of e ψ k) (first-term φ) (select-all l)

pub whole_is_read : WholeIsRead
whole_is_read φ l workspace few =
    let w = word-is-row φ l workspace (2 ^ length l - 1) few (omega (arith, pow_pos (length l))) in
    (ap (bit 0) w.0 ∙ row_whole false φ l, ap (bit 0) w.1 ∙ row_whole true φ l)
