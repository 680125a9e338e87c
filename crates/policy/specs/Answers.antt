-- Refusals as cases, and what a call that may be refused answers: its number and its code.
use Rattle.std.specs.Prelude.{ℕ, Option, Some, None, Result, Ok, Err}
use Rattle.policy.specs.Codes.{Code, Fault, Plain, ACCEPTED, WORD_COUNT, WORD, TERM, UNIT, OPENING, TEXT, COUNTS, ROWS, WORKFLOW, MALFORMED, FULL, NOT_POSSIBLE, CLOSED, NOT_SATISFIED, NOT_AUTHORIZED, NO_TRANSITION, WORKSPACE, OUTPUT, CASE, MONITOR}
use Rattle.policy.specs.Faults.{code_number}
use Rattle.policy.specs.declared.refusal.Refusal.{Refusal}
use Rattle.policy.specs.declared.refusal.Refusal.TheVariants.{WordCount, Word, Term, Unit, Opening, Text, Counts, Rows, Workflow, Malformed, Full, NotPossible, Closed, NotSatisfied, NotAuthorized, NoTransition, Workspace, Output, Case, Monitor}

-- the code of a refusal: 1 to 4 have a place, that of 1 is 0 (document 02, E2)
abbrev pub code_of : Refusal → Code
code_of WordCount = Fault WORD_COUNT 0
code_of (Word place) = Fault WORD place
code_of (Term place) = Fault TERM place
code_of (Unit place) = Fault UNIT place
code_of Opening = Plain OPENING
code_of Text = Plain TEXT
code_of Counts = Plain COUNTS
code_of Rows = Plain ROWS
code_of Workflow = Plain WORKFLOW
code_of Malformed = Plain MALFORMED
code_of Full = Plain FULL
code_of NotPossible = Plain NOT_POSSIBLE
code_of Closed = Plain CLOSED
code_of NotSatisfied = Plain NOT_SATISFIED
code_of NotAuthorized = Plain NOT_AUTHORIZED
code_of NoTransition = Plain NO_TRANSITION
code_of Workspace = Plain WORKSPACE
code_of Output = Plain OUTPUT
code_of Case = Plain CASE
code_of Monitor = Plain MONITOR

-- the place of a code, if it has one
abbrev pub place : Code → Option ℕ
place (Fault k p) = Some p
place (Plain k) = None

-- the code of what a call answers: 0 if it is not refused
abbrev pub answer_code : {T : Type 0} → Result T Refusal → Code
answer_code (Ok x) = Plain ACCEPTED
answer_code (Err r) = code_of r

-- and its number
abbrev pub answer_number : {T : Type 0} → Result T Refusal → ℕ
answer_number a = code_number (answer_code a)
