-- What callers ask of the term that is found.
use Rattle.std.proofs.Common.{◌≡◌, ℕ, Bool, true, false, cond, List, length, refl, ap, ◌∙◌, arith, ne_eqb}
use Rattle.std.specs.Prelude.{Option as Maybe, Some, None}
use mathlib.Core.Option.{Option, some, none}
use Rattle.soda.specs.Terms.{Term, well_formed}
use Rattle.policy.specs.Words.{decode}
use Rattle.policy.specs.Reading.{length_ok, is_formed, units_of}
use Rattle.units.specs.Units.{nonzero, unit_words}
use Rattle.units.specs.Private.{analysis_in}
use Rattle.units.specs.declared.terms.Analysis.{Analysis}
use Rattle.units.proofs.Units.{some-unit}

-- the unit words of what is found, if it is well formed
abbrev formed_units : Maybe Analysis → Maybe ℕ
formed_units None = None
formed_units (Some t) = cond t.formed (Some t.units) None

asked : (x : Option Term) → formed_units (analysis_in 0 0 x) ≡ nonzero (cond (is_formed x) (units_of x) 0)
asked none = refl
asked (some φ) = go (well_formed φ)
  where
    go : (b : Bool) → cond b (Some (units_of (some φ))) None ≡ nonzero (cond b (units_of (some φ)) 0)
    go true = rw (ne_eqb (units_of (some φ)) 0 (λ z. omega (arith, z, some-unit φ)))
    go false = refl

pub formed-units : (ws : List ℕ) (t : Maybe Analysis) → true ≡ length_ok (length ws) → t ≡ analysis_in 0 0 (decode ws)
    → formed_units t ≡ nonzero (unit_words ws)
unfolding unit_words
formed-units ws t l e = rw (← l) (ap formed_units e ∙ asked (decode ws))
