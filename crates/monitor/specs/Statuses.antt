-- The status (document 01: standing), which the instance keeps (document 02, E6), with document 01's number and letter.
use Rattle.std.specs.Prelude.{cond, ℕ, eqb, Result, Ok, Err}
use Rattle.soda.specs.Tables.{satisfied}
use Rattle.policy.specs.Refusals.{code}
use Rattle.policy.specs.declared.refusal.Refusal.{Refusal}
use Rattle.instance.specs.declared.Instance.{Instance}
use Rattle.monitor.specs.declared.Monitor.{Monitor}
use Rattle.instance.specs.declared.status.Status.{Status}
use Rattle.instance.specs.Letters.{letter_d, letter, open_letter}
use Rattle.instance.specs.Instances.{taken_of, term, is_closed}
use Rattle.monitor.specs.Monitors.{monitor_refusals}

-- 15
abbrev pub status_code : Monitor → ℕ
status_code m = code (monitor_refusals m)

-- the letter that is kept
abbrev pub status_letter : Monitor → ℕ
status_letter m = cond (eqb (status_code m) 0) m.instance.status 0

-- the number and the letter
pub record StatusOutcome : Type 0 where
  pub code : ℕ
  pub letter : ℕ

unfoldable pub status_of : Monitor → StatusOutcome
status_of m = record { code = status_code m; letter = status_letter m }

-- the letter of what src's `status` answers; a refusal has none
abbrev pub letter_in : Result Status Refusal → ℕ
letter_in (Ok s) = letter s
letter_in (Err r) = 0

-- Document 01's letter: `d` closed, else `c` if the taken actions satisfy, else `o`. It is the one that is kept "on a sheet grown from an opening
-- by events" (claims, Letters).
abbrev pub letter_of : Instance → ℕ
letter_of i = cond (is_closed i) letter_d (open_letter (satisfied (term i) 0 (taken_of i)))
