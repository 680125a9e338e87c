-- Document 01's numbers ("Numbers, by who causes them") and those that document 02 adds. `Refusal` of src has each as a case.
use Rattle.std.specs.Prelude.{ℕ}

-- acceptance
abbrev pub ACCEPTED : ℕ
ACCEPTED = 0

-- ── the policy's author ──
-- no word, or more than 31
abbrev pub WORD_COUNT : ℕ
WORD_COUNT = 1

-- some word is not in the layout, names a role or user not declared, or is an empty set
abbrev pub WORD : ℕ
WORD = 2

-- the words are not exactly one term
abbrev pub TERM : ℕ
TERM = 3

-- not or plus over a term that is no unit term
abbrev pub UNIT : ℕ
UNIT = 4

-- a text does not begin with `policy: `
abbrev pub OPENING : ℕ
OPENING = 20

-- what stands behind that is no term, or the text has more than 1,024 bytes
abbrev pub TEXT : ℕ
TEXT = 21

-- ── the personnel desk ──
-- users or roles not 1 to 16
abbrev pub COUNTS : ℕ
COUNTS = 5

-- role rows not one a user, or a role not declared
abbrev pub ROWS : ℕ
ROWS = 6

-- permissions or workflow of a wrong length or with a count out of range, a state not declared, an action above 63, or two transitions with
-- the same state and action; or one of the two without the other
abbrev pub WORKFLOW : ℕ
WORKFLOW = 19

-- ── the clerk who sends events or multisets ──
-- event word out of layout, or user or role not declared; in a multiset, a count above 0 for a user not declared
abbrev pub MALFORMED : ℕ
MALFORMED = 7

-- twelve actions taken already; in a multiset, more than twelve in all
abbrev pub FULL : ℕ
FULL = 8

-- the actions with this one are not possible
abbrev pub NOT_POSSIBLE : ℕ
NOT_POSSIBLE = 9

-- the instance is closed
abbrev pub CLOSED : ℕ
CLOSED = 10

-- close, but not satisfied, or the workflow is in no final state
abbrev pub NOT_SATISFIED : ℕ
NOT_SATISFIED = 11

-- no role that the user holds gives the action
abbrev pub NOT_AUTHORIZED : ℕ
NOT_AUTHORIZED = 16

-- the workflow has no transition for the action from its present state
abbrev pub NO_TRANSITION : ℕ
NO_TRANSITION = 17

-- ── the program that calls ──
-- workspace below 8,192 words
abbrev pub WORKSPACE : ℕ
WORKSPACE = 12

-- output shorter than the policy, or than what is to be written
abbrev pub OUTPUT : ℕ
OUTPUT = 13

-- case file malformed
abbrev pub CASE : ℕ
CASE = 14

-- monitor malformed: its policy, counts or role rows would be refused; above twelve actions; a user not declared; a bit at a word
-- that begins no unit term; an unused place, policy word or role row not zero; permissions, workflow or present state malformed, or unused
-- ones not zero
abbrev pub MONITOR : ℕ
MONITOR = 15

-- ── codes ──
-- the code of a call that reads a policy (document 02, E2: point at the bad word): the number of a policy's fault, 1 to 4, with the fault's
-- place among the words, counted from 0; or another number, which has no place
pub data Code : Type 0 where
  Fault : ℕ → ℕ → Code
  Plain : ℕ → Code
