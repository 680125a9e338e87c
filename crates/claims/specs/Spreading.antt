-- Document 02, E9: "together, apart and both each spread over either, on both sides", one claim about the definitions that the contracts of
-- `open`, `event` and `status` cite, and what becomes of a policy's words. Statements only.
use Rattle.std.specs.Prelude.{◌≡◌, cond, List, [], ◌∷◌, ◌++◌, ℕ, leb, length}
use Rattle.std.proofs.Math.Bool.{So}
use Rattle.soda.specs.Lists.{all}
use Rattle.soda.specs.Rewriting.{Spread, Rewrite, WordRuleSteps}
use Rattle.policy.specs.Codes.{ACCEPTED, WORD_COUNT}
use Rattle.policy.specs.Refusals.{code}
use Rattle.policy.specs.Reading.{refusals}
use Rattle.monitor.specs.Monitors.{Opening, given, bare, open_code}
use Rattle.claims.specs.EqualForms.{IsAccepted, AnsweredAlike}
use Rattle.claims.specs.Examples.{Example, events, normal, number, holds, o, c}

-- two openings get the same number, and what they leave is answered alike
pub record NumberedAlike (o p : Opening) : Type 0 where
  pub number : open_code o ≡ open_code p
  pub alike : AnsweredAlike o p

-- on the same counts, and on any grants, permissions and workflow that are the same for both
abbrev pub SameAnswers : ℕ → ℕ → List ℕ → List ℕ → Type 0
SameAnswers users roles v w =
    (rows permissions workflow : List ℕ)
    → NumberedAlike (given users roles v rows permissions workflow) (given users roles w rows permissions workflow)

-- "Where each form is an accepted policy, they give every sequence of events the same numbers and standings, from the same counts, grants,
-- permissions and plan": two accepted policies, one of which becomes the other by spreading anywhere, in any number of steps, exchanges and
-- regroupings mixed in or not. The words between may be longer than a policy.
abbrev pub Spreading : Type 0
Spreading =
    (users roles : ℕ) (v w : List ℕ) → IsAccepted users roles v → IsAccepted users roles w → WordRuleSteps Rewrite v w
    → SameAnswers users roles v w

-- The other form of an accepted policy is itself one, or it has passed 31 words and is refused with 1. A drafter has nothing else to check.
abbrev pub SpreadIsAccepted : Type 0
SpreadIsAccepted =
    (users roles : ℕ) (v w : List ℕ) → IsAccepted users roles v → WordRuleSteps Rewrite v w
    → code (refusals users roles w) ≡ cond (leb (length w) 31) ACCEPTED WORD_COUNT

-- ── examples ──
-- Roles 0, 1 and 2 are counter, pricer and editor. "Counter with (pricer or editor)", and "as two whole alternatives":
abbrev pub joint : List ℕ
joint = 0x08000000 ∷ 0x02000000 ∷ 0x06000000 ∷ 0x02000001 ∷ 0x02000002 ∷ []

abbrev pub alternatives : List ℕ
alternatives = 0x06000000 ∷ 0x08000000 ∷ 0x02000000 ∷ 0x02000001 ∷ 0x08000000 ∷ 0x02000000 ∷ 0x02000002 ∷ []

-- eight counters, 15 words; apart from a pricer or editor, and as two whole alternatives
abbrev pub counters : List ℕ
counters =
    0x08000000 ∷ 0x02000000 ∷ 0x08000000 ∷ 0x02000000 ∷ 0x08000000 ∷ 0x02000000 ∷ 0x08000000 ∷ 0x02000000 ∷ 0x08000000 ∷ 0x02000000
    ∷ 0x08000000 ∷ 0x02000000 ∷ 0x08000000 ∷ 0x02000000 ∷ 0x02000000 ∷ []

abbrev pub many_joint : List ℕ
many_joint = 0x09000000 ∷ (counters ++ (0x06000000 ∷ 0x02000001 ∷ 0x02000002 ∷ []))

abbrev pub many_alternatives : List ℕ
many_alternatives = 0x06000000 ∷ 0x09000000 ∷ (counters ++ (0x02000001 ∷ 0x09000000 ∷ (counters ++ (0x02000002 ∷ []))))

abbrev pub SpreadsTo : Type 0
SpreadsTo = WordRuleSteps Spread joint alternatives × WordRuleSteps Spread many_joint many_alternatives

-- The first two have different normal forms: each is its own. The other two have 19 words and 35, so the second is refused with 1.
abbrev pub forms : List Example
forms = normal 3 3 joint joint ∷ normal 3 3 alternatives alternatives ∷ number 3 3 many_joint ACCEPTED ∷ number 3 3 many_alternatives WORD_COUNT ∷ []

-- What does not spread; in each the wrong form comes first. Plus over either: of a pricer and an editor each is a pricer or editor, but they
-- are neither all pricers nor all editors.
abbrev pub plus_over_either : List Example
plus_over_either =
    events (bare 2 3 (0x06000000 ∷ 0x05000000 ∷ 0x02000001 ∷ 0x05000000 ∷ 0x02000002 ∷ []) (2 ∷ 4 ∷ [])) (0x01000000 ∷ 0x01000100 ∷ []) (c 0 ∷ c 9 ∷ [])
    ∷ events (bare 2 3 (0x05000000 ∷ 0x06000000 ∷ 0x02000001 ∷ 0x02000002 ∷ []) (2 ∷ 4 ∷ [])) (0x01000000 ∷ 0x01000100 ∷ []) (c 0 ∷ c 0 ∷ [])
    ∷ []

-- Either over together: one action of a counter is one of two in the wrong form, and enough in the other.
abbrev pub either_over_together : List Example
either_over_together =
    events (bare 1 3 (0x08000000 ∷ 0x06000000 ∷ 0x02000000 ∷ 0x02000001 ∷ 0x06000000 ∷ 0x02000000 ∷ 0x02000002 ∷ []) (1 ∷ [])) (0x01000000 ∷ []) (o 0 ∷ [])
    ∷ events (bare 1 3 (0x06000000 ∷ 0x02000000 ∷ 0x08000000 ∷ 0x02000001 ∷ 0x02000002 ∷ []) (1 ∷ [])) (0x01000000 ∷ []) (c 0 ∷ [])
    ∷ []

-- Apart into together: a user who is counter and pricer may not act as both, but may in the wrong form.
abbrev pub apart_into_together : List Example
apart_into_together =
    events (bare 1 3 alternatives (3 ∷ [])) (0x01000000 ∷ 0x01000000 ∷ []) (o 0 ∷ c 0 ∷ [])
    ∷ events (bare 1 3 (0x09000000 ∷ 0x02000000 ∷ 0x06000000 ∷ 0x02000001 ∷ 0x02000002 ∷ []) (3 ∷ [])) (0x01000000 ∷ 0x01000000 ∷ []) (o 0 ∷ o 9 ∷ [])
    ∷ []

pub record SpreadExamples : Type 0 where
  pub different : So (all holds forms)
  pub plus : So (all holds plus_over_either)
  pub either : So (all holds either_over_together)
  pub apart : So (all holds apart_into_together)
