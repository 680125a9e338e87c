-- What a run is made of: the answers of the calls, by the definitions that their contracts cite. Statements only.
use Rattle.std.specs.Prelude.{◌≡◌, List, ℕ, length}
use Rattle.monitor.specs.declared.Monitor.{Monitor}
use Rattle.policy.specs.Faults.{code_number}
use Rattle.monitor.specs.Monitors.{Opening, open_code, opened, opening}
use Rattle.monitor.specs.Events.{outcome}
use Rattle.monitor.specs.Statuses.{status_of}
use Rattle.monitor.specs.Runs.{Lengths, step_of}

-- an event call, and the status call on the monitor that it leaves
pub record StepOfCalls (m : Monitor) (w : ℕ) (n : Lengths) (before : List ℕ) : Type 0 where
  pub number : (outcome m w before).code ≡ (step_of m w n).code
  pub monitor : (outcome m w before).monitor ≡ (step_of m w n).left
  pub status_has_number : (status_of (outcome m w before).monitor).code ≡ (step_of m w n).status_code
  pub letter : (status_of (outcome m w before).monitor).letter ≡ (step_of m w n).letter

-- A run starts with what an opening call hands back, and each of its steps is such calls, whatever the workspace holds.
abbrev pub OpeningIsCall : Type 0
OpeningIsCall = (o : Opening) → (code_number (opening o).code ≡ open_code o) × ((opening o).monitor ≡ opened o)

abbrev pub StepIsCalls : Type 0
StepIsCalls =
    (m : Monitor) (w : ℕ) (n : Lengths) (before : List ℕ) → length before ≡ n 0 → StepOfCalls m w n before
