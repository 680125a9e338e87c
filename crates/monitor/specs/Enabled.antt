-- Who may act (document 02, E1 and E4): the users whose action, of one number, would be answered 0 now.
use Rattle.std.specs.Prelude.{◌≡◌, ◌≢◌, Bool, false, not, ◌||◌, cond, List, map, ℕ, ◌+◌, ◌-◌, ◌*◌, ◌^◌, ◌≤◌, ◌<◌, leb, ltb, eqb, length, Result, Ok, Err}
use Rattle.std.proofs.Math.Bool.{So}
use Rattle.soda.specs.Bits.{bit, number}
use Rattle.soda.specs.Lists.{range}
use Rattle.policy.specs.Codes.{NOT_AUTHORIZED, NO_TRANSITION}
use Rattle.policy.specs.Kinds.{ACTION}
use Rattle.policy.specs.Refusals.{code}
use Rattle.policy.specs.Faults.{code_number}
use Rattle.policy.specs.Answers.{code_of}
use Rattle.policy.specs.declared.refusal.Refusal.{Refusal}
use Rattle.instance.specs.Instances.{is_closed}
use Rattle.configuration.specs.Permitted.{behind_last}
use Rattle.monitor.specs.declared.Monitor.{Monitor}
use Rattle.monitor.specs.Monitors.{admission}
use Rattle.monitor.specs.Events.{event_code, outcome}

-- who may act: a set of users, bit u for user u, or a refusal's number
pub data Enabled : Type 0 where
  Users : ℕ → Enabled
  Refused : ℕ → Enabled

-- what `enabled` of src answers
abbrev pub as_enabled : Result ℕ Refusal → Enabled
as_enabled (Ok mask) = Users mask
as_enabled (Err r) = Refused (code_number (code_of r))

-- 01's number for each case
abbrev pub enabled_number : Enabled → ℕ
enabled_number (Users mask) = 0
enabled_number (Refused k) = k

-- the word of an action by user u, with the number a
abbrev pub action_word : ℕ → ℕ → ℕ
action_word u a = ACTION * 2 ^ 24 + u * 2 ^ 8 + a

-- "an action by person p would be answered 0 now", with the number a; n is the length of the workspace
abbrev pub may_act : Monitor → ℕ → ℕ → ℕ → Bool
may_act m n a u = eqb (event_code m (action_word u a) n) 0

-- "bit p is set exactly when"; no bit from the number of users on
unfoldable pub enabled_mask : Monitor → ℕ → ℕ → ℕ
enabled_mask m n a = number (map (may_act m n a) (range 0 m.configuration.users))

-- "Only 12 and 15 apply, in that order": the users where neither does
abbrev pub answered : ℕ → ℕ → Enabled
answered k mask = cond (eqb k 0) (Users mask) (Refused k)

abbrev pub enabled_in : Monitor → ℕ → ℕ → Enabled
enabled_in m n a = answered (code (admission m (ltb n 8192))) (enabled_mask m n a)

-- a "person whose trial gets neither 16 nor 17"
abbrev pub gets_trial : Monitor → ℕ → ℕ → ℕ → Bool
gets_trial m n a u = not (eqb (event_code m (action_word u a) n) NOT_AUTHORIZED || eqb (event_code m (action_word u a) n) NO_TRANSITION)

-- one more than the highest number of such a user; 0 "if none"
unfoldable pub behind_trials : Monitor → ℕ → ℕ → ℕ
behind_trials m n a = behind_last (map (gets_trial m n a) (range 0 m.configuration.users))

-- the answer and the workspace: "its room is that of the highest person whose trial gets neither 16 nor 17, untouched if none", so what an
-- action by that user leaves there. A trial that is refused before anything is judged leaves it untouched.
pub record EnabledOutcome : Type 0 where
  pub answer : Enabled
  pub workspace : List ℕ

abbrev pub left_by : Monitor → ℕ → ℕ → List ℕ → List ℕ
left_by m k a before = cond (eqb k 0) before (outcome m (action_word (k - 1) a) before).workspace

unfoldable pub enabled_of : Monitor → ℕ → List ℕ → EnabledOutcome
enabled_of m a before = record {
  answer = enabled_in m (length before) a;
  workspace = left_by m (behind_trials m (length before) a) a before;
}

-- ── what is proved of it ──
-- Bit u says whether an action with the number a, a byte, by user u, a byte, would be answered 0, and there is none from the number of users
-- on.
abbrev pub BitIsAction : Type 0
BitIsAction = (m : Monitor) (n u a : ℕ) → u < 256 → a < 256 → bit u (enabled_mask m n a) ≡ eqb (event_code m (action_word u a) n) 0

abbrev pub NoOtherBit : Type 0
NoOtherBit = (m : Monitor) (n u a : ℕ) → m.configuration.users ≤ u → bit u (enabled_mask m n a) ≡ false

-- "A closed or full sheet gives 0 and leaves the room untouched"
abbrev pub ClosedOrFullIsNobody : Type 0
ClosedOrFullIsNobody =
    (m : Monitor) (a : ℕ) (before : List ℕ) → a < 256 → So (is_closed m.instance || leb 12 m.instance.taken)
    → (enabled_mask m (length before) a ≡ 0) × ((enabled_of m a before).workspace ≡ before)

-- "show that a refused one leaves it right": whatever the event, its number and its workspace
abbrev pub RefusalKeepsMask : Type 0
RefusalKeepsMask =
    (m : Monitor) (w : ℕ) (before : List ℕ) (n a : ℕ) → (outcome m w before).code ≢ 0
    → enabled_mask (outcome m w before).monitor n a ≡ enabled_mask m n a
