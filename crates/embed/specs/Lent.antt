-- What a call leaves in what it is lent besides: in a byte the place of a policy's fault (document 02, E2), in users the mask of who may
-- act (E1), in a length how many words or bytes were written (E7).
use Rattle.std.specs.Prelude.{◌≡◌, List, ℕ}
use Rattle.policy.specs.Codes.{ACCEPTED, Code, Fault, Plain}
use Rattle.policy.specs.Faults.{code_number}
use Rattle.text.specs.Reading.{Converted, Written, Refused}
use Rattle.monitor.specs.Monitors.{Opening, opening}
use Rattle.monitor.specs.declared.Monitor.{Monitor}
use Rattle.monitor.specs.Enabled.{Enabled, Users, Refused as RefusedUsers, enabled_number, enabled_of}

-- ── places ──
-- 1 to 4 write the byte, and nothing else does
abbrev pub place_left : Code → ℕ → ℕ
place_left (Fault k p) before = p
place_left (Plain k) before = before

-- the number, the lent byte and the monitor
pub record OpeningLent : Type 0 where
  pub code : ℕ
  pub place : ℕ
  pub monitor : Monitor

unfoldable pub opening_lent : Opening → ℕ → OpeningLent
opening_lent o place = record {
  code = code_number (opening o).code;
  place = place_left (opening o).code place;
  monitor = (opening o).monitor;
}

-- ── users ──
-- a refusal leaves them alone
abbrev pub users_left : Enabled → ℕ → ℕ
users_left (Users mask) users = mask
users_left (RefusedUsers k) users = users

-- the number, the lent users and the workspace
pub record LentOutcome : Type 0 where
  pub code : ℕ
  pub users : ℕ
  pub workspace : List ℕ

unfoldable pub enabled_lent : Monitor → ℕ → ℕ → List ℕ → LentOutcome
enabled_lent m a users before = record {
  code = enabled_number (enabled_of m a before).answer;
  users = users_left (enabled_of m a before).answer users;
  workspace = (enabled_of m a before).workspace;
}

-- ── lengths ──
-- the code of a conversion
abbrev pub conversion_code : Converted → Code
conversion_code (Written n) = Plain ACCEPTED
conversion_code (Refused c) = c

-- what was written is counted; a refusal leaves the length alone
abbrev pub length_left : Converted → ℕ → ℕ
length_left (Written n) before = n
length_left (Refused c) before = before

-- the number, the lent length and the lent byte
pub record LengthLent (r : Converted) (length place number newLength newPlace : ℕ) : Type 0 where
  pub code : number ≡ code_number (conversion_code r)
  pub counted : newLength ≡ length_left r length
  pub pointed : newPlace ≡ place_left (conversion_code r) place
