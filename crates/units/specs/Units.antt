-- The unit terms of a policy's words, and those that a user meets.
use Rattle.std.specs.Prelude.{◌≡◌, Bool, true, false, ◌&&◌, cond, List, map, ℕ, ◌≤◌, ◌<◌, leb, eqb, length, get_or, replicate, Option as Maybe, Some, None}
use Rattle.std.proofs.Math.Option.{Option, some, none}
use Rattle.soda.specs.Lists.{range, padded}
use Rattle.soda.specs.Roles.{roles}
use Rattle.soda.specs.Terms.{Term, unit, well_formed, marks}
use Rattle.soda.specs.Tables.{met_bits}
use Rattle.policy.specs.Codes.{ACCEPTED}
use Rattle.policy.specs.Refusals.{code}
use Rattle.policy.specs.Words.{decode}
use Rattle.policy.specs.Reading.{length_ok, is_formed, refusals, units_of}
use Rattle.units.specs.declared.Survey.{Survey}

-- The mask of the words that begin unit terms, where the words are one well-formed term of 1 to 31 words; else 0.
unfoldable pub unit_words : List ℕ → ℕ
unit_words ws = cond (length_ok (length ws) && is_formed (decode ws)) (units_of (decode ws)) 0

-- what `units_of` of src answers: nothing for the mask 0, which no such term has
abbrev pub nonzero : ℕ → Maybe ℕ
nonzero n = cond (eqb n 0) None (Some n)

-- For each word that begins a unit term, whether a user who holds these roles meets it, bit i for word i. Words that are not
-- exactly one term of 1 to 31 words give 0.
abbrev pub met_in : Option Term → ℕ → ℕ → ℕ
met_in none u h = 0
met_in (some φ) u h = met_bits φ u h

unfoldable pub met_of : List ℕ → ℕ → ℕ → ℕ
met_of ws u h = cond (length_ok (length ws)) (met_in (decode ws) u h) 0

-- The same for each user, by the roles of each: user 0 first, and zeros behind, 16 in all. More than 16 users give zeros.
unfoldable pub met_each : List ℕ → List ℕ → List ℕ
met_each ws rows = cond (leb (length rows) 16) (padded 16 (map (λ u. met_of ws u (roles rows u)) (range 0 (length rows)))) (replicate 16 0)

-- What a call on a monitor asks of its policy: whether none of 5 and 1 to 4 applies, and then its unit words and those that a user meets.
pub record PolicySurvey : Type 0 where
  pub accepted : Bool
  pub units : ℕ
  pub met : ℕ

abbrev pub survey_in : Bool → ℕ → ℕ → PolicySurvey
survey_in accepted units met = record { accepted = accepted; units = cond accepted units 0; met = cond accepted met 0 }

unfoldable pub survey_of : ℕ → ℕ → List ℕ → ℕ → ℕ → PolicySurvey
survey_of users roles ws u h = survey_in (eqb (code (refusals users roles ws)) ACCEPTED) (units_of (decode ws)) (met_of ws u h)

-- what `survey_of` of src answers: nothing for a policy that is refused
abbrev pub as_survey : Maybe Survey → PolicySurvey
as_survey None = survey_in false 0 0
as_survey (Some s) = record { accepted = true; units = s.units; met = s.met }

-- ── what is proved of them ──
-- Of at most 16 users, place u of what each meets is what user u meets.
abbrev pub EachIsMet : Type 0
EachIsMet = (ws rows : List ℕ) (u : ℕ) → length rows ≤ 16 → u < length rows → get_or (met_each ws rows) u 0 ≡ met_of ws u (roles rows u)

-- An unassigned user, who holds no role, meets none (document 02, E3).
abbrev pub UnassignedMeetsNone : Type 0
UnassignedMeetsNone = (ws : List ℕ) (u : ℕ) → met_of ws u 0 ≡ 0

-- A term has a word that begins a unit term.
abbrev pub SomeUnit : Type 0
SomeUnit = (φ : Term) → 1 ≤ marks unit φ

-- the words are φ, a well-formed term of 1 to 31 words
pub record OneTerm (ws : List ℕ) (φ : Term) : Type 0 where
  pub long : length_ok (length ws) ≡ true
  pub is : decode ws ≡ some φ
  pub formed : well_formed φ ≡ true

-- So the mask is 0 exactly where there is no such term; else it is that term's.
abbrev pub ZeroIsNoTerm : Type 0
ZeroIsNoTerm = (ws : List ℕ) → unit_words ws ≡ 0 → (φ : Term) → OneTerm ws φ → ⊥

abbrev pub ElseOneTerm : Type 0
ElseOneTerm = (ws : List ℕ) → (unit_words ws ≡ 0 → ⊥) → (φ : Term) × OneTerm ws φ × (unit_words ws ≡ marks unit φ)
