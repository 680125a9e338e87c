-- What a survey says of a policy.
use Rattle.std.specs.Prelude.{Bool, true, false}
use mathlib.Core.Path.{◌≡◌, sym, ap, ◌∙◌}
use mathlib.Core.List.{List}
use Prim.Native.Nat.{ℕ}
use lib.Dec.{eqb}
use Rattle.policy.specs.Refusals.{code}
use Rattle.policy.specs.Words.{decode}
use Rattle.policy.specs.Reading.{refusals, units_of}
use Rattle.units.specs.Units.{PolicySurvey, survey_in, met_of, survey_of}
use Rattle.units.specs.declared.Survey.{Survey}

-- none of the refusals of a policy applies
abbrev pub accepted : ℕ → ℕ → List ℕ → Bool
accepted users roles words = eqb (code (refusals users roles words)) 0

module _ (users roles : ℕ) (words : List ℕ) (u h : ℕ) where
  -- where there is no survey, some refusal applies
  pub survey_none : survey_in false 0 0 ≡ survey_of users roles words u h → accepted users roles words ≡ false
  unfolding survey_of
  survey_none is = sym (ap (λ (s : PolicySurvey). s.accepted) is)

  -- one is of an accepted policy
  module _ (s : Survey) (is : record { accepted = true; units = s.units; met = s.met } ≡ survey_of users roles words u h) where
    pub survey_accepted : accepted users roles words ≡ true
    unfolding survey_of
    survey_accepted = sym (ap (λ (s : PolicySurvey). s.accepted) is)

    pub survey_units : s.units ≡ units_of (decode words)
    unfolding survey_of
    survey_units = ap (λ (s : PolicySurvey). s.units) is ∙ rw survey_accepted

    pub survey_met : s.met ≡ met_of words u h
    unfolding survey_of
    survey_met = ap (λ (s : PolicySurvey). s.met) is ∙ rw survey_accepted
