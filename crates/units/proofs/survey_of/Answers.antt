-- At each `return` the tests that led there say whether the policy is accepted; what is found of its term is all that is asked.
use Rattle.std.proofs.Common.{◌≡◌, ℕ, Bool, true, false, not, ◌&&◌, eqb, List, [], ◌∷◌, length, refl, sym, ap, ◌∙◌, true≢false}
use Rattle.std.specs.Prelude.{Option as Maybe, Some, None}
use mathlib.Core.Bool.{So}
use borrow.Author.Tests.{not-true, not-false}
use mathlib.Core.Option.{Option, some, none}
use Rattle.soda.specs.Terms.{Term, well_formed}
use Rattle.soda.specs.Lists.{all}
use Rattle.soda.proofs.Bools.{and_split}
use Rattle.policy.specs.Codes.{ACCEPTED, WORD_COUNT, WORD, COUNTS}
use Rattle.policy.specs.Words.{word_ok, decode}
use Rattle.policy.specs.Reading.{count_ok, length_ok, units_of, layout_ok}
use Rattle.policy.specs.Refusals.{Refusals, ◌gives◌, code}
use Rattle.policy.proofs.Scanning.{length-range}
use Rattle.policy.proofs.Accepted.{last_refusals}
use Rattle.units.specs.Units.{PolicySurvey, met_in, met_of, survey_in, survey_of}
use Rattle.units.specs.Private.{analysis_in}
use Rattle.units.specs.declared.terms.Analysis.{Analysis}
use Rattle.units.proofs.survey_of.Goals as goal

-- ── 5, 1 and 2 ──
-- one of the first three tests fails
early : (a b c : Bool) (l : Refusals) → (a && (b && c)) ≡ false
    → eqb (code ((not a gives COUNTS) ∷ (not b gives WORD_COUNT) ∷ (not c gives WORD) ∷ l)) ACCEPTED ≡ false
early true true true l e = absurd (true≢false e)
early true true false l e = refl
early true false c l e = refl
early false b c l e = refl

pub returns-then-not-in_layout : goal.returns-then-not-in_layout
unfolding survey_of
returns-then-not-in_layout c =
    let a = c.args in
    let ws = a.words.now in
    rw (early (count_ok a.users && count_ok a.roles) (length_ok (length ws)) (all (word_ok a.users a.roles) ws) (last_refusals (decode ws))
    (sym c.if-not-in_layout.ensures))

-- the tests passed
module _ (users roles : ℕ) (ws : List ℕ) (laid : So (layout_ok users roles ws)) where
  counts : So (count_ok users && count_ok roles) × So (length_ok (length ws) && all (word_ok users roles) ws)
  counts = and_split (count_ok users && count_ok roles) (length_ok (length ws) && all (word_ok users roles) ws) laid

  words : So (length_ok (length ws)) × So (all (word_ok users roles) ws)
  words = and_split (length_ok (length ws)) (all (word_ok users roles) ws) counts.1

  -- ── 3 and 4 ──
  module _ (u h : ℕ) where
    -- what is found, if it is well formed
    abbrev found : Maybe Analysis → PolicySurvey
    found None = survey_in false 0 0
    found (Some t) = survey_in t.formed t.units t.noted

    -- the two tests that are left
    late : (x : Option Term) → found (analysis_in u h x) ≡ survey_in (eqb (code (last_refusals x)) ACCEPTED) (units_of x) (met_in x u h)
    late none = refl
    late (some φ) = go (well_formed φ)
      where
        go : (b : Bool) → survey_in b (units_of (some φ)) (met_in (some φ) u h) ≡ survey_in (eqb (code ((not b gives 4) ∷ [])) ACCEPTED) (units_of (some φ)) (met_in (some φ) u h)
        go true = refl
        go false = refl

    surveyed : (t : Maybe Analysis) → t ≡ analysis_in u h (decode ws) → found t ≡ survey_of users roles ws u h
    unfolding survey_of met_of
    surveyed t e = rw (counts.0, words.0, words.1) (ap found e ∙ late (decode ws))

pub analyse-requires : goal.analyse-requires
analyse-requires c =
    let a = c.args in
    (length-range (length a.words.now) (words a.users a.roles a.words.now (sym c.if-not-in_layout.ensures)).0).1

pub returns-in_err-term : goal.returns-in_err-term
returns-in_err-term c =
    let a = c.args in
    let e = surveyed a.users a.roles a.words.now (sym c.if-not-in_layout.ensures) a.user a.held _ (sym c.in_err-term.was ∙ c.analyse.ensures) in
    rw c.from_residual.ensures e

pub returns-then-not-term : goal.returns-then-not-term
returns-then-not-term c =
    let a = c.args in
    rw (not-true c.in_ok-term.term.formed c.if-not-term.true) at (surveyed a.users a.roles a.words.now (sym c.if-not-in_layout.ensures) a.user a.held _ (sym c.in_ok-term.was ∙ c.analyse.ensures))

pub returns : goal.returns
returns c =
    let a = c.args in
    rw (not-false c.in_ok-term.term.formed c.if-not-term.false) at (surveyed a.users a.roles a.words.now (sym c.if-not-in_layout.ensures) a.user a.held _ (sym c.in_ok-term.was ∙ c.analyse.ensures))
