-- Demand 2: after an opening and any events, the monitor answers what document 004 says, its Definitions 3, 6 and 7, with rule 4 of Definition
-- 3 as document 02's E3 replaces it (`Rule4` of soda), and with permissions and a workflow its process SSW (E4). Statements only.
-- `event_code` and `status_letter` are fields of `outcome` and `status_of`, which the contracts of `event` and `status` cite. The first is
-- given the length of the workspace alone, so its contents play no part (`StepIsCalls` of Calls); the second is given none.
use Rattle.std.specs.Prelude.{◌≡◌, ◌↔◌, Bool, true, false, not, cond, List, [], ◌∷◌, ◌++◌, map, ℕ, ◌+◌, ◌≤◌, ◌<◌, leb, ltb, length, get_or}
use Rattle.std.proofs.Math.Bool.{So}
use Rattle.soda.specs.Lists.{any, ascending}
use Rattle.soda.specs.Multisets.{multiset, SatM}
use Rattle.soda.specs.Traces.{admin, Trace, business_only, users, SatT}
use Rattle.soda.specs.Csp.{Accepts}
use Rattle.soda.specs.Processes.{Symbol, event, done, P, is_done, body, SOD, W, RBAC, SSW, without_admin, without_done}
use Rattle.policy.specs.Codes.{ACCEPTED, FULL, NOT_AUTHORIZED, NO_TRANSITION}
use Rattle.workspace.specs.Workspace.{filled}
use Rattle.monitor.specs.declared.Monitor.{Monitor}
use Rattle.monitor.specs.Monitors.{Opening, policy, open_code, opened}
use Rattle.instance.specs.Letters.{letter_d, letter_c, letter_o}
use Rattle.monitor.specs.Events.{Event, Acts, Grants, Revokes, Closes, Malformed, read_event, is_malformed, is_short, event_code}
use Rattle.monitor.specs.Statuses.{status_letter}
use Rattle.monitor.specs.Runs.{Lengths, Step, run, final, is_action}
use Rattle.multiset.specs.MultisetTest.{total, noted_by, letter_y, letter_n, unordered, test_of, test_workspace}
use Rattle.claims.specs.Runs.{symbol_of, accepted}
use Rattle.claims.specs.Ordered.{is_ordered, permissions_of, ordering, finals, may_end}

-- An opening answered 0, then any list of words as events, with workspaces of any lengths: an event whose workspace is too short is
-- refused, as others are for other reasons.
pub record Run : Type 0 where
  pub start : Opening
  pub opens : open_code start ≡ ACCEPTED
  pub events : List ℕ
  pub lengths : Lengths

abbrev pub steps : Run → List Step
steps r = run (opened r.start) r.events r.lengths

-- the monitor that the run leaves, and its accepted events
abbrev pub left : Run → Monitor
left r = final (opened r.start) (steps r)

abbrev pub history : Run → List Symbol
history r = accepted (steps r)

-- the next word, by the counts of the opening
abbrev pub next : Run → ℕ → Event
next r w = read_event r.start.users r.start.roles w

-- ── what the accepted events say ──
-- their trace, without the closing event
abbrev pub trace_of : List Symbol → Trace
trace_of [] = []
trace_of (event e ∷ l) = e ∷ trace_of l
trace_of (done ∷ l) = trace_of l

-- whether a close is among them
abbrev pub has_closed : List Symbol → Bool
has_closed l = any is_done l

-- how many actions are among them
abbrev pub business_events : List Symbol → ℕ
business_events [] = 0
business_events (event e ∷ l) = cond (admin e) 0 1 + business_events l
business_events (done ∷ l) = business_events l

-- there is room for an event: a monitor takes up to twelve actions, and any number of other events
abbrev pub has_room : List Symbol → Event → Bool
has_room l (Acts u a) = ltb (business_events l) 12
has_room l (Grants u r) = true
has_room l (Revokes u r) = true
has_room l Closes = true
has_room l Malformed = true

-- the run satisfies its policy under the trace rules (Definition 6)
abbrev pub Satisfies : Run → Type 0
Satisfies r = SatT r.start.rows (trace_of (history r)) (policy r.start)

-- The processes of its opening: W of its workflow, RBAC of its grants and permissions, SOD of its policy (Definition 8), and all three
-- together; where neither permissions nor workflow are given, SOD alone.
abbrev pub workflow_of : Opening → P
workflow_of o = W (ordering o) (finals o)

abbrev pub access_of : Opening → P
access_of o = RBAC o.rows (permissions_of o)

abbrev pub policy_of : Opening → P
policy_of o = SOD (policy o) o.users o.rows

abbrev pub process_of : Opening → P
process_of o = cond (is_ordered o) (SSW (policy o) o.users (ordering o) (finals o) o.rows (permissions_of o)) (policy_of o)

-- the process has these events
abbrev pub Enforced : Run → List Symbol → Type 1
Enforced r l = Accepts body (process_of r.start) l

-- of an action in the layout while no close has been accepted: RBAC has the accepted events followed by it, and W has
abbrev pub Authorized : Run → Event → Type 1
Authorized r e = Accepts body (access_of r.start) (without_done (history r ++ symbol_of e))

abbrev pub InOrder : Run → Event → Type 1
InOrder r e = Accepts body (workflow_of r.start) (without_admin (history r ++ symbol_of e))

-- ── the claims ──
-- The next word in the layout, be it an action, a grant, a revocation or a close, is answered 0 exactly when the process has the
-- accepted events followed by it. The workspace is long enough for it, and a close asks for none; for an action fewer than twelve have been
-- taken.
abbrev pub EventIsProcess : Type 1
EventIsProcess =
    (r : Run) (w n : ℕ) → is_short w n ≡ false → is_malformed (next r w) ≡ false → So (has_room (history r) (next r w))
    → (event_code (left r) w n ≡ ACCEPTED) ↔ Enforced r (history r ++ symbol_of (next r w))

-- 16 is answered exactly when permissions are given, the word is an action in the layout, no close has been accepted, and RBAC does not
-- take it; 17 exactly when RBAC does and the workflow does not.
abbrev pub SixteenIsAccess : Type 1
SixteenIsAccess =
    (r : Run) (w n : ℕ) → is_short w n ≡ false
    → (event_code (left r) w n ≡ NOT_AUTHORIZED)
    ↔ (So (is_action (next r w)) × So (not (has_closed (history r))) × So (is_ordered r.start) × (Authorized r (next r w) → ⊥))

abbrev pub SeventeenIsOrder : Type 1
SeventeenIsOrder =
    (r : Run) (w n : ℕ) → is_short w n ≡ false
    → (event_code (left r) w n ≡ NO_TRANSITION)
    ↔ (So (is_action (next r w)) × So (not (has_closed (history r))) × So (is_ordered r.start) × Authorized r (next r w) × (InOrder r (next r w) → ⊥))

-- 8 is answered exactly when the word is an action in the layout, no close has been accepted, twelve actions have been, and RBAC and the
-- workflow, if they are given, take it.
abbrev pub EightIsFull : Type 1
EightIsFull =
    (r : Run) (w n : ℕ) → is_short w n ≡ false
    → (event_code (left r) w n ≡ FULL)
    ↔ (So (is_action (next r w)) × So (not (has_closed (history r))) × (business_events (history r) ≡ 12)
    × (So (is_ordered r.start) → Authorized r (next r w) × InOrder r (next r w)))

-- A close is answered 0 exactly when the run satisfies the policy under the trace rules and the workflow, if it is given, is in a final
-- state, whatever the workspace. (No close has been accepted: 004's traces end with done.)
abbrev pub CloseIsTrace : Type 0
CloseIsTrace =
    (r : Run) (w n : ℕ) → next r w ≡ Closes → So (not (has_closed (history r)))
    → (event_code (left r) w n ≡ ACCEPTED) ↔ (Satisfies r × So (may_end r.start (trace_of (history r))))

-- With no grant or revocation in the run, exactly when the multiset of its users does and the workflow is in one.
abbrev pub CloseIsMultiset : Type 0
CloseIsMultiset =
    (r : Run) (w n : ℕ) → next r w ≡ Closes → So (not (has_closed (history r))) → So (business_only (trace_of (history r)))
    → (event_code (left r) w n ≡ ACCEPTED)
    ↔ (SatM r.start.rows (users (trace_of (history r))) (policy r.start) × So (may_end r.start (trace_of (history r))))

-- The status does not look at the workflow: it is `d` exactly when a close has been accepted; else it is `c` exactly when the run satisfies
-- the policy under the trace rules, and `o` exactly when it does not.
abbrev pub StatusIsTrace : Type 0
StatusIsTrace =
    (r : Run)
    → ((status_letter (left r) ≡ letter_d) ↔ So (has_closed (history r)))
    × ((status_letter (left r) ≡ letter_c) ↔ (So (not (has_closed (history r))) × Satisfies r))
    × ((status_letter (left r) ≡ letter_o) ↔ (So (not (has_closed (history r))) × (Satisfies r → ⊥)))

-- The input of a multiset test: a workspace long enough, an opening that would be accepted without permissions and workflow, no action by a
-- user who is not declared, and twelve actions at most.
pub record Testable (o : Opening) (counts : List ℕ) (n : ℕ) : Type 0 where
  pub long : 8192 ≤ n
  pub opens : open_code (unordered o) ≡ ACCEPTED
  pub declared : (u : ℕ) → o.users ≤ u → get_or counts u 0 ≡ 0
  pub few : total counts ≤ 12

-- the multiset in which each user has its count satisfies the policy by Definition 3
abbrev pub Counted : Opening → List ℕ → Type 0
Counted o counts = SatM o.rows (λ u. get_or counts u 0) (policy o)

-- The multiset test says yes exactly when its input is such and the multiset satisfies the policy, and no exactly when its input is
-- such and the multiset does not.
abbrev pub TestIsMultiset : Type 0
TestIsMultiset =
    (o : Opening) (counts : List ℕ) (n : ℕ)
    → (((test_of o counts n).letter ≡ letter_y) ↔ (Testable o counts n × Counted o counts))
    × (((test_of o counts n).letter ≡ letter_n) ↔ (Testable o counts n × (Counted o counts → ⊥)))

-- 02, E8: "a bag's actions are numbered by ascending person". Where the input is such, the workspace is filled for actions by users who ascend
-- and occur as often as their counts say, the action at place j by the user at place j; there is one such list (`ListedIsAscending` of
-- multiset). Else it is as it was.
abbrev pub TestFillsAscending : Type 0
TestFillsAscending =
    (o : Opening) (counts before users : List ℕ) → So (ascending leb users) → multiset users ≡ (λ u. get_or counts u 0)
    → (Testable o counts (length before) → test_workspace o counts before ≡ filled (policy o) (map (noted_by o) users) before)
    × ((Testable o counts (length before) → ⊥) → test_workspace o counts before ≡ before)

-- 02, E8: "Partner houses compare rooms in tests". The same question leaves the same 8,192 words, whatever two workspaces held.
abbrev pub TestLeavesSameWords : Type 0
TestLeavesSameWords =
    (o : Opening) (counts one other : List ℕ) (k : ℕ) → Testable o counts (length one) → Testable o counts (length other) → k < 8192
    → get_or (test_workspace o counts one) k 0 ≡ get_or (test_workspace o counts other) k 0
