-- The text that the judge prints (document 01, "Case file and program"), as bytes.
use Rattle.std.specs.Prelude.{not, cond, List, [], ◌∷◌, ◌++◌, ℕ, suc, ◌+◌, ◌/◌, ◌%◌, ltb, eqb, length, drop, Option, Some, None}
use Rattle.policy.specs.Codes.{CASE, Code, Fault, Plain}
use Rattle.monitor.specs.declared.Monitor.{Monitor}
use Rattle.monitor.specs.Monitors.{open_code, opened, opening}
use Rattle.monitor.specs.Runs.{Step, run, taken}
use Rattle.casefile.specs.Cases.{case_ok, opening_of, event_words}

-- a number below 1,000 in decimal
abbrev pub digit : ℕ → ℕ
digit n = 48 + n % 10

abbrev pub decimal : ℕ → List ℕ
decimal n =
    cond (ltb n 10) (digit n ∷ [])
    (cond (ltb n 100) (digit (n / 10) ∷ digit n ∷ [])
    (digit (n / 100) ∷ digit (n / 10) ∷ digit n ∷ []))

-- `refused k`, of a policy's fault `refused k at p` (document 02, E2), and `taken n`; every line ends in a line feed, 10
abbrev pub refused_number : ℕ → List ℕ
refused_number k = 114 ∷ 101 ∷ 102 ∷ 117 ∷ 115 ∷ 101 ∷ 100 ∷ 32 ∷ decimal k

abbrev pub refused_text : Code → List ℕ
refused_text (Fault k p) = refused_number k ++ (32 ∷ 97 ∷ 116 ∷ 32 ∷ (decimal p ++ (10 ∷ [])))
refused_text (Plain k) = refused_number k ++ (10 ∷ [])

abbrev pub taken_text : ℕ → List ℕ
taken_text n = 116 ∷ 97 ∷ 107 ∷ 101 ∷ 110 ∷ 32 ∷ (decimal n ++ (10 ∷ []))

-- an event's line: its place from 1, its number, the status after it
abbrev pub line_text : ℕ → ℕ → ℕ → List ℕ
line_text place k status = decimal place ++ (32 ∷ (decimal k ++ (32 ∷ status ∷ 10 ∷ [])))

-- the run of a case's events, with workspaces of 8,192 words
abbrev pub case_run : Monitor → List ℕ → List Step
case_run m ws = run m ws (λ k. 8192)

-- the lines of a run's events from a place on
unfoldable pub step_lines : ℕ → List Step → List ℕ
step_lines place [] = []
step_lines place (s ∷ l) = line_text place s.code s.letter ++ step_lines (suc place) l

-- an opened case: a line an event, then the actions answered 0
unfoldable pub run_text : Monitor → List ℕ → List ℕ
run_text m ws = step_lines 1 (case_run m ws) ++ taken_text (taken (case_run m ws))

-- 14, then the opening's codes
unfoldable pub case_text : List ℕ → List ℕ
case_text b =
    cond (not (case_ok b)) (refused_text (Plain CASE))
    (cond (eqb (open_code (opening_of b)) 0) (run_text (opened (opening_of b)) (event_words b)) (refused_text (opening (opening_of b)).code))

-- The output must hold the longest text: 256 lines of at most 9 bytes, and one more. A shorter one is left as it was.
abbrev pub limit : ℕ
limit = 2313

-- how many bytes of text were written, or that the output cannot hold the longest text
pub data Printed : Type 0 where
  Written : ℕ → Printed
  TooShort : Printed

-- what `print_case` of src answers
abbrev pub as_printed : Option ℕ → Printed
as_printed (Some n) = Written n
as_printed None = TooShort

unfoldable pub printed : List ℕ → ℕ → Printed
printed b n = cond (ltb n limit) TooShort (Written (length (case_text b)))

unfoldable pub output : List ℕ → List ℕ → List ℕ
output b out = cond (ltb (length out) limit) out (case_text b ++ drop (length (case_text b)) out)
