-- What is proved of the place of a policy's fault (document 02, E2). Statements only.
use Rattle.std.specs.Prelude.{◌≡◌, ℕ, ◌+◌, ◌<◌, ◌≤◌, false, ◌&&◌, ◌⊎◌, ◌↔◌, List, ◌∷◌, ◌++◌, length, take, ◌≢◌, slice_index}
use Rattle.std.proofs.Math.Bool.{So}
use Rattle.soda.specs.Lists.{all}
use Rattle.soda.specs.Terms.{Term, well_formed, size, subterms, term_at}
use Rattle.soda.specs.Words.{encode, fits}
use Rattle.policy.specs.Codes.{WORD_COUNT, WORD, TERM, UNIT, COUNTS}
use Rattle.policy.specs.Words.{word_ok}
use Rattle.policy.specs.Faults.{over_unit, place_of, code_at, code_number}
use Rattle.policy.specs.Reading.{count_ok, length_ok, refusals, read_policy, code_read}
use Rattle.policy.specs.Refusals.{code}
use Rattle.policy.specs.Accepted.{InLayout, WordsOf}
use Rattle.policy.specs.Codes.{Fault, Plain}
use Rattle.policy.specs.Reading.{Accepted, Refused}

-- ── where each number points ──
-- 1 points at the start.
abbrev pub OneIsAtStart : Type 0
OneIsAtStart =
    (users roles : ℕ) (ws : List ℕ) (p : ℕ)
    → (read_policy users roles ws ≡ Refused (Fault WORD_COUNT p))
    ↔ (So (count_ok users && count_ok roles) × (length_ok (length ws) ≡ false) × (p ≡ 0))

-- 2 points at the first word that is not in the layout: those before it are.
pub record FirstBad (users roles : ℕ) (ws : List ℕ) (p : ℕ) : Type 0 where
  pub counts : So (count_ok users && count_ok roles)
  pub long : So (length_ok (length ws))
  pub inside : p < length ws
  pub before : So (all (word_ok users roles) (take p ws))
  pub here : word_ok users roles (slice_index ws p) ≡ false

abbrev pub TwoIsFirst : Type 0
TwoIsFirst =
    (users roles : ℕ) (ws : List ℕ) (p : ℕ) → (read_policy users roles ws ≡ Refused (Fault WORD p)) ↔ FirstBad users roles ws p

-- 3 points behind the term that the words begin with, where a word is left over; where they begin with none, behind them all.
pub data TermEnds (ws : List ℕ) : ℕ → Type 0 where
  more : (φ : Term) (w : ℕ) (rest : List ℕ) → ws ≡ encode φ ++ (w ∷ rest) → So (fits φ) → TermEnds ws (size φ)
  runs_out : ((φ : Term) (rest : List ℕ) → ws ≡ encode φ ++ rest → So (fits φ) → ⊥) → TermEnds ws (length ws)

abbrev pub ThreeIsBehind : Type 0
ThreeIsBehind =
    (users roles : ℕ) (ws : List ℕ) (p : ℕ)
    → (read_policy users roles ws ≡ Refused (Fault TERM p)) ↔ (InLayout users roles ws × TermEnds ws p)

-- In the second case the words run out: some words behind them make a term.
abbrev pub RunOutIsUnfinished : Type 0
RunOutIsUnfinished =
    (users roles : ℕ) (ws : List ℕ)
    → read_policy users roles ws ≡ Refused (Fault TERM (length ws)) → (φ : Term) × (vs : List ℕ) × WordsOf φ (ws ++ vs)

-- 4 points at the first not or plus over a term that is no unit term: of the terms that begin at the words before it none is such.
pub record FirstNotOver (φ : Term) (p : ℕ) : Type 0 where
  pub inside : p < size φ
  pub before : So (all over_unit (take p (subterms φ)))
  pub here : over_unit (term_at φ p) ≡ false

abbrev pub FourIsFirst : Type 0
FourIsFirst =
    (users roles : ℕ) (ws : List ℕ) (p : ℕ)
    → (read_policy users roles ws ≡ Refused (Fault UNIT p)) ↔ ((φ : Term) × InLayout users roles ws × WordsOf φ ws × FirstNotOver φ p)

-- A term is well formed exactly when there is none.
abbrev pub FormedIsOver : Type 0
FormedIsOver = (φ : Term) → well_formed φ ≡ all over_unit (subterms φ)

-- ── the place ──
-- It is below 32, and no further than behind the words.
abbrev pub PlaceInRange : Type 0
PlaceInRange =
    (users roles : ℕ) (ws : List ℕ) (k p : ℕ) → read_policy users roles ws ≡ Refused (Fault k p) → (p < 32) × (p ≤ length ws)

-- Other words behind the place of a 2 do not move it, as long as they are not too many.
abbrev pub TwoStays : Type 0
TwoStays =
    (users roles : ℕ) (us : List ℕ) (w : ℕ) (vs others : List ℕ)
    → read_policy users roles (us ++ (w ∷ vs)) ≡ Refused (Fault WORD (length us)) → length us + length others < 31
    → read_policy users roles (us ++ (w ∷ others)) ≡ Refused (Fault WORD (length us))

-- ── who has a place ──
-- Where the counts are in range, a policy is accepted exactly when it has no fault; where they are not, 5 has no place.
abbrev pub AcceptedIsFaultless : Type 0
AcceptedIsFaultless =
    (users roles : ℕ) (ws : List ℕ) → So (count_ok users && count_ok roles)
    → ((n : ℕ) × (m : ℕ) × (read_policy users roles ws ≡ Accepted n m)) ↔ ((k p : ℕ) → read_policy users roles ws ≢ Refused (Fault k p))

abbrev pub CountsHaveNone : Type 0
CountsHaveNone =
    (users roles : ℕ) (ws : List ℕ) → (count_ok users && count_ok roles) ≡ false → read_policy users roles ws ≡ Refused (Plain COUNTS)

-- The code of a call has the call's number; 1 to 4 have the place that goes with it, and the others, 0 among them, have none.
abbrev pub CodeHasNumber : Type 0
CodeHasNumber = (users roles : ℕ) (ws : List ℕ) (k : ℕ) → code_number (code_at users roles ws k) ≡ k

abbrev pub FaultsHaveOne : Type 0
FaultsHaveOne =
    (users roles : ℕ) (ws : List ℕ) (k : ℕ) → WORD_COUNT ≤ k → k ≤ UNIT → code_at users roles ws k ≡ Fault k (place_of users roles ws k)

abbrev pub OthersHaveNone : Type 0
OthersHaveNone = (users roles : ℕ) (ws : List ℕ) (k : ℕ) → (k < WORD_COUNT) ⊎ (UNIT < k) → code_at users roles ws k ≡ Plain k

-- The code of an answer is that of its number.
abbrev pub CodeOfRead : Type 0
CodeOfRead = (users roles : ℕ) (ws : List ℕ) → code_read (read_policy users roles ws) ≡ code_at users roles ws (code (refusals users roles ws))
