-- The byte by which an exported call answers where the monitor answers with an enum: the letter where the number is 0, else the number.
-- No letter is the number of a refusal.
use Rattle.std.specs.Prelude.{cond, ℕ, eqb}
use Rattle.policy.specs.Faults.{code_number}
use Rattle.monitor.specs.Statuses.{StatusOutcome}
use Rattle.multiset.specs.MultisetTest.{TestOutcome}

abbrev pub byte_of : ℕ → ℕ → ℕ
byte_of code letter = cond (eqb code 0) letter code

-- `d`, `c` or `o`, or a number
abbrev pub status_byte : StatusOutcome → ℕ
status_byte s = byte_of s.code s.letter

-- `y` or `n`, or a number
abbrev pub verdict_byte : TestOutcome → ℕ
verdict_byte v = byte_of (code_number v.code) v.letter
