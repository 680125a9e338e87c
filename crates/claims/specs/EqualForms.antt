-- Demand 3 (document 01, "Equal forms"), one claim about the definitions that the contracts of `normal_form`, `open`, `event` and
-- `status` cite. Statement only.
use Rattle.std.specs.Prelude.{◌≡◌, ◌↔◌, List, ℕ, ◌≤◌, length, take}
use Rattle.soda.specs.Steps.{WordSteps}
use Rattle.policy.specs.Codes.{ACCEPTED}
use Rattle.policy.specs.Refusals.{code}
use Rattle.policy.specs.Reading.{refusals}
use Rattle.normal.specs.NormalForms.{normal_out}
use Rattle.monitor.specs.Monitors.{Opening, given, open_code, opened}
use Rattle.monitor.specs.Statuses.{status_code, status_letter}
use Rattle.monitor.specs.Runs.{Lengths, EnoughFor, run}
use Rattle.claims.specs.Runs.{lines}

-- a policy is accepted when none of 5 and 1 to 4 applies
abbrev pub IsAccepted : ℕ → ℕ → List ℕ → Type 0
IsAccepted users roles words = code (refusals users roles words) ≡ ACCEPTED

-- Its normal form: the words that the call writes into an output long enough.
abbrev pub normal : ℕ → ℕ → List ℕ → List ℕ → List ℕ
normal users roles words out = take (length words) (normal_out users roles words out)

-- The monitors that two openings leave have the same status, and they give every list of 32-bit words the same number for each event and
-- the same status after it. Every event call may have its own workspace, long enough for its word, a close may have any: only its length is
-- passed, so its contents play no part. The status call has none.
pub record AnsweredAlike (o p : Opening) : Type 0 where
  pub status : (status_code (opened o) ≡ status_code (opened p)) × (status_letter (opened o) ≡ status_letter (opened p))
  pub events : (ws : List ℕ) (n n' : Lengths) → EnoughFor ws n → EnoughFor ws n' → lines (run (opened o) ws n) ≡ lines (run (opened p) ws n')

-- Two accepted policies over the same counts, and an output long enough for each: they have the same normal form exactly when exchanges
-- and regroupings lead from one to the other. If they have the same normal form then, opened on the same grants, permissions and workflow,
-- they are answered alike.
pub record Alike (users roles : ℕ) (v w out out' : List ℕ) : Type 0 where
  pub form : (normal users roles v out ≡ normal users roles w out') ↔ WordSteps v w
  pub answers : normal users roles v out ≡ normal users roles w out' → (rows permissions workflow : List ℕ)
      → open_code (given users roles v rows permissions workflow) ≡ ACCEPTED → open_code (given users roles w rows permissions workflow) ≡ ACCEPTED
      → AnsweredAlike (given users roles v rows permissions workflow) (given users roles w rows permissions workflow)

abbrev pub EqualForms : Type 0
EqualForms =
    (users roles : ℕ) (v w : List ℕ) → IsAccepted users roles v → IsAccepted users roles w
    → (out out' : List ℕ) → length v ≤ length out → length w ≤ length out' → Alike users roles v w out out'
