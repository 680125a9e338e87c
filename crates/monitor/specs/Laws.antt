-- What is proved of openings, well-formed monitors and events. Statements only.
use Rattle.std.specs.Prelude.{◌≡◌, ◌≢◌, Bool, false, not, List, [], ◌∷◌, ℕ, ◌/◌, ◌^◌, ◌≤◌, ◌<◌, eqb, length}
use Rattle.std.proofs.Math.Bool.{So}
use Rattle.policy.specs.Codes.{NOT_SATISFIED, WORKSPACE}
use Rattle.policy.specs.Kinds.{CLOSE}
use Rattle.policy.specs.Refusals.{◌gives◌, code}
use Rattle.policy.specs.Accepted.{IsPolicy}
use Rattle.monitor.specs.declared.Monitor.{Monitor}
use Rattle.workflow.specs.Reading.{secure_ok}
use Rattle.configuration.specs.Configurations.{rows_ok}
use Rattle.configuration.specs.declared.Configuration.{Configuration}
use Rattle.instance.specs.declared.Instance.{Instance}
use Rattle.instance.specs.Letters.{letter_c}
use Rattle.instance.specs.Instances.{has_workflow, is_closed}
use Rattle.monitor.specs.Monitors.{Opening, policy, open_code, fresh, opened, well_formed, admission}
use Rattle.monitor.specs.Events.{Event, Acts, Grants, Revokes, Closes, Malformed, read_event, is_malformed, trial_refusals, own_refusals, event_refusals, advanced, outcome}
use Rattle.monitor.specs.Statuses.{letter_of}
use Rattle.monitor.specs.Enabled.{action_word}

-- ── an accepted opening ──
-- It leaves the opened sheet; its words are those of its policy, a well-formed term with declared roles and users ..
abbrev pub OpenedIsFresh : Type 0
OpenedIsFresh = (o : Opening) → open_code o ≡ 0 → opened o ≡ fresh o

abbrev pub OpenedIsPolicy : Type 0
OpenedIsPolicy = (o : Opening) → open_code o ≡ 0 → IsPolicy o.users o.roles o.words (policy o)

-- .. and 6 does not apply to its grants.
abbrev pub OpenedRowsOk : Type 0
OpenedRowsOk = (o : Opening) → open_code o ≡ 0 → So (rows_ok o.users o.roles o.rows)

-- .. nor 19 to its permissions and its workflow.
abbrev pub OpenedSecureOk : Type 0
OpenedSecureOk = (o : Opening) → open_code o ≡ 0 → So (secure_ok o.roles o.permissions o.workflow)

-- ── a well-formed monitor ──
-- It holds at most twelve actions, and where no workspace is too short neither 12 nor 15 applies to it.
abbrev pub TwelveAtMost : Type 0
TwelveAtMost = (m : Monitor) → So (well_formed m) → m.instance.taken ≤ 12

abbrev pub WellFormedIsAdmitted : Type 0
WellFormedIsAdmitted = (m : Monitor) → So (well_formed m) → code (admission m false) ≡ 0

-- ── events ──
-- the users and roles that an event names are declared
abbrev pub Declared : ℕ → ℕ → Event → Type 0
Declared users roles (Acts u a) = u < users
Declared users roles (Grants u r) = (u < users) × (r < roles)
Declared users roles (Revokes u r) = (u < users) × (r < roles)
Declared users roles Closes = Unit
Declared users roles Malformed = Unit

-- A word that is read names none but declared ones.
abbrev pub ReadIsDeclared : Type 0
ReadIsDeclared = (users roles w : ℕ) → Declared users roles (read_event users roles w)

-- none of 12, 15, 10 and 7 applies to an event, and its own refusals give 0
pub record Passed (m : Monitor) (e : Event) (short : Bool) : Type 0 where
  pub long : short ≡ false
  pub is_well : So (well_formed m)
  pub is_open : is_closed m.instance ≡ false
  pub in_layout : is_malformed e ≡ false
  pub own : code (own_refusals m.configuration m.instance e) ≡ 0

-- An accepted event has passed them all.
abbrev pub AcceptedHasPassed : Type 0
AcceptedHasPassed = (m : Monitor) (e : Event) (short : Bool) → code (event_refusals m e short) ≡ 0 → Passed m e short

-- A word of kind 4, in the layout or not, is never answered 12 and leaves the workspace as it is; what is answered and the monitor are the same
-- for any other one.
pub record AsksNoWorkspace (m : Monitor) (w : ℕ) (before before' : List ℕ) : Type 0 where
  pub never_12 : (outcome m w before).code ≢ WORKSPACE
  pub untouched : (outcome m w before).workspace ≡ before
  pub same_code : (outcome m w before).code ≡ (outcome m w before').code
  pub same_monitor : (outcome m w before).monitor ≡ (outcome m w before').monitor

abbrev pub CloseAsksNoWorkspace : Type 0
CloseAsksNoWorkspace = (m : Monitor) (w : ℕ) (before before' : List ℕ) → w / 2 ^ 24 ≡ CLOSE → AsksNoWorkspace m w before before'

-- ── the letter ──
-- An opened monitor has document 01's letter, and an event leaves it where it was there. (The places of an instance are always twelve.)
abbrev pub OpenedHasLetter : Type 0
OpenedHasLetter = (o : Opening) → (fresh o).instance.status ≡ letter_of (fresh o).instance

abbrev pub EventKeepsLetter : Type 0
EventKeepsLetter =
    (m : Monitor) (w : ℕ) (before : List ℕ) → length m.instance.actions ≡ 12 → m.instance.status ≡ letter_of m.instance
    → (outcome m w before).monitor.instance.status ≡ letter_of (outcome m w before).monitor.instance

-- ── with neither permissions nor workflow ──
-- "every action is permitted and no final state is asked": an action's own refusals are 8 and 9, a close's that the letter is not `c`, and the
-- state stays 0. So every answer is what it is without them.
pub record Unordered (c : Configuration) (i : Instance) : Type 0 where
  pub action : (u a : ℕ) → code (own_refusals c i (Acts u a)) ≡ code (trial_refusals c i u)
  pub close : code (own_refusals c i Closes) ≡ code ((not (eqb i.status letter_c) gives NOT_SATISFIED) ∷ [])
  pub state : (u a : ℕ) → (advanced c i (Acts u a)).state ≡ 0

abbrev pub WithoutWorkflow : Type 0
WithoutWorkflow = (c : Configuration) (i : Instance) → has_workflow i ≡ false → Unordered c i

-- Then an action's number, a byte, plays no part in what an action by a user, a byte, gives.
abbrev pub NumberPlaysNoPart : Type 0
NumberPlaysNoPart =
    (m : Monitor) (u a : ℕ) (before : List ℕ) → u < 256 → a < 256 → has_workflow m.instance ≡ false
    → outcome m (action_word u a) before ≡ outcome m (action_word u 0) before
