-- What a list of 32-bit words does to a monitor: each event gets it as the last one left it, and the status is asked after each.
use Rattle.std.specs.Prelude.{◌≡◌, Bool, true, false, ◌&&◌, cond, List, [], ◌∷◌, ℕ, ◌+◌, ◌≤◌, eqb}
use Rattle.monitor.specs.declared.Monitor.{Monitor}
use Rattle.monitor.specs.Events.{Event, Acts, Grants, Revokes, Closes, Malformed, is_short, event_in, event_code, event_monitor}
use Rattle.monitor.specs.Statuses.{status_code, status_letter}

-- Every event call may have its own workspace; the status call has none. Numbers, monitors and letters depend on its length alone, so a run is
-- given the lengths of the workspaces, one after the other.
abbrev pub Lengths : Type 0
Lengths = ℕ → ℕ

-- each long enough
abbrev pub Enough : Lengths → Type 0
Enough n = (k : ℕ) → 8192 ≤ n k

abbrev pub from : ℕ → Lengths → Lengths
from k n = λ j. n (k + j)

-- each long enough for its word: one of kind 4 asks for none
abbrev pub EnoughFor : List ℕ → Lengths → Type 0
EnoughFor [] n = Unit
EnoughFor (w ∷ ws) n = (is_short w (n 0) ≡ false) × EnoughFor ws (from 1 n)

-- one event: the word as it was read, its number, the monitor that it left, and the status call's number and letter there
pub record Step : Type 0 where
  pub event : Event
  pub code : ℕ
  pub left : Monitor
  pub status_code : ℕ
  pub letter : ℕ

abbrev pub step_of : Monitor → ℕ → Lengths → Step
step_of m w n = record {
  event = event_in m w;
  code = event_code m w (n 0);
  left = event_monitor m w (n 0);
  status_code = status_code (event_monitor m w (n 0));
  letter = status_letter (event_monitor m w (n 0));
}

unfoldable pub run : Monitor → List ℕ → Lengths → List Step
run m [] n = []
run m (w ∷ ws) n = step_of m w n ∷ run (event_monitor m w (n 0)) ws (from 1 n)

-- ── read off a run ──
-- the monitor that it leaves, which started as m
abbrev pub final : Monitor → List Step → Monitor
final m [] = m
final m (s ∷ l) = final s.left l

abbrev pub is_action : Event → Bool
is_action (Acts u a) = true
is_action (Grants u r) = false
is_action (Revokes u r) = false
is_action Closes = false
is_action Malformed = false

-- how many actions were answered 0
abbrev pub taken : List Step → ℕ
taken [] = 0
taken (s ∷ l) = cond (is_action s.event && eqb s.code 0) 1 0 + taken l
