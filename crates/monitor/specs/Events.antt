-- One event (document 01, "Sheets and events"): its word, the refusals in order, and what it leaves.
use Rattle.std.specs.Prelude.{Bool, true, false, not, ◌&&◌, ◌||◌, cond, List, [], ◌∷◌, ◌++◌, ℕ, ◌/◌, ◌%◌, ◌^◌, leb, ltb, eqb, length, Option, Some, None, Result, Ok, Err}
use Rattle.soda.specs.Tables.{satisfied, possible}
use Rattle.soda.specs.declared.Action.{Action}
use Rattle.policy.specs.Codes.{ACCEPTED, MALFORMED, FULL, NOT_POSSIBLE, CLOSED, NOT_SATISFIED}
use Rattle.policy.specs.Kinds.{ACTION, GRANT, REVOKE, CLOSE}
use Rattle.policy.specs.Refusals.{◌gives◌, code}
use Rattle.policy.specs.declared.refusal.Refusal.{Refusal}
use Rattle.workspace.specs.Workspace.{filled}
use Rattle.configuration.specs.declared.Configuration.{Configuration}
use Rattle.instance.specs.declared.Instance.{Instance}
use Rattle.monitor.specs.declared.Monitor.{Monitor}
use Rattle.monitor.specs.declared.events.Event.{Event as EventRead}
use Rattle.monitor.specs.declared.events.Event.TheVariants.{Action as ActionRead, Grant as GrantRead, Revoke as RevokeRead, Close as CloseRead}
use Rattle.configuration.specs.Configurations.{with_grant, without_grant}
use Rattle.instance.specs.Letters.{letter_c, open_letter}
use Rattle.instance.specs.Instances.{taken_of, term, is_closed, noted_for, with_action, with_status, as_closed}
use Rattle.instance.specs.Steps.{leads_to, step_refusals, state_of, is_final}
use Rattle.monitor.specs.Monitors.{admission}

-- ── the word ──
-- a user acts, with the action's number, is granted a role or has one revoked, or the instance is closed
-- `Malformed`: out of layout, or a user or role that is not declared (01, number 7).
pub data Event : Type 0 where
  Acts : ℕ → ℕ → Event
  Grants : ℕ → ℕ → Event
  Revokes : ℕ → ℕ → Event
  Closes : Event
  Malformed : Event

-- the kind in bits 24 to 31, the user in bits 8 to 15, a role or an action's number in bits 0 to 7
abbrev pub event_of : ℕ → ℕ → ℕ → ℕ → ℕ → Event
event_of users roles kind user low =
    cond (eqb kind ACTION) (cond (ltb user users) (Acts user low) Malformed)
    (cond (eqb kind GRANT) (cond (ltb user users && ltb low roles) (Grants user low) Malformed)
    (cond (eqb kind REVOKE) (cond (ltb user users && ltb low roles) (Revokes user low) Malformed)
    (cond (eqb kind CLOSE) (cond (eqb user 0 && eqb low 0) Closes Malformed)
    Malformed)))

-- bits 16 to 23 are zero
unfoldable pub read_event : ℕ → ℕ → ℕ → Event
read_event users roles w = cond (eqb (w / 2 ^ 16 % 2 ^ 8) 0) (event_of users roles (w / 2 ^ 24) (w / 2 ^ 8 % 2 ^ 8) (w % 2 ^ 8)) Malformed

-- what src reads of a word; nothing of a malformed one
abbrev pub as_event : Option EventRead → Event
as_event (Some (ActionRead u a)) = Acts u a
as_event (Some (GrantRead u r)) = Grants u r
as_event (Some (RevokeRead u r)) = Revokes u r
as_event (Some CloseRead) = Closes
as_event None = Malformed

-- A workspace of n words is too short for the word: document 02's E6, "12 no longer occurs .. for any word of kind 4", in the layout or not.
abbrev pub is_short : ℕ → ℕ → Bool
is_short w n = not (eqb (w / 2 ^ 24) CLOSE) && ltb n 8192

-- the word on a monitor
abbrev pub event_in : Monitor → ℕ → Event
event_in m w = read_event m.configuration.users m.configuration.roles w

abbrev pub is_malformed : Event → Bool
is_malformed (Acts u a) = false
is_malformed (Grants u r) = false
is_malformed (Revokes u r) = false
is_malformed Closes = false
is_malformed Malformed = true

-- ── the refusals: 12, 15, 10, 7, then 16, 17, 8, 9 for an action; for words of kind 4 they are 15, 10, 7, 11 ──
-- all taken actions with one more by user u
abbrev pub tried : Configuration → Instance → ℕ → List Action
tried c i u = taken_of i ++ (noted_for c i u ∷ [])

abbrev pub entry : Instance → Event → List (Bool × ℕ)
entry i e = (is_closed i gives CLOSED) ∷ (is_malformed e gives MALFORMED) ∷ []

-- 8, 9
abbrev pub trial_refusals : Configuration → Instance → ℕ → List (Bool × ℕ)
trial_refusals c i u = (leb 12 i.taken gives FULL) ∷ (not (possible (term i) 0 (tried c i u)) gives NOT_POSSIBLE) ∷ []

-- 11: "a close looks at the letter and the plan's state"
abbrev pub close_refusals : Instance → List (Bool × ℕ)
close_refusals i = (not (eqb i.status letter_c && is_final i) gives NOT_SATISFIED) ∷ []

abbrev pub own_refusals : Configuration → Instance → Event → List (Bool × ℕ)
own_refusals c i (Acts u a) = step_refusals c i u a ++ trial_refusals c i u
own_refusals c i (Grants u r) = []
own_refusals c i (Revokes u r) = []
own_refusals c i Closes = close_refusals i
own_refusals c i Malformed = []

-- of an event where a workspace is asked for and too short, or not
unfoldable pub event_refusals : Monitor → Event → Bool → List (Bool × ℕ)
event_refusals m e short = admission m short ++ (entry m.instance e ++ own_refusals m.configuration m.instance e)

-- ── what an event leaves ──
-- an accepted event alters only its own part: a grant or revocation of the configuration, an action or a close of the instance
abbrev pub configured : Configuration → Event → Configuration
configured c (Acts u a) = c
configured c (Grants u r) = with_grant c u r
configured c (Revokes u r) = without_grant c u r
configured c Closes = c
configured c Malformed = c

-- "an accepted action works it out anew": the letter is of the actions with this one
abbrev pub taking : Configuration → Instance → ℕ → ℕ → Instance
taking c i u s = with_status (with_action i (noted_for c i u) s) (open_letter (satisfied (term i) 0 (tried c i u)))

abbrev pub advanced : Configuration → Instance → Event → Instance
advanced c i (Acts u a) = taking c i u (state_of (leads_to i a))
advanced c i (Grants u r) = i
advanced c i (Revokes u r) = i
advanced c i Closes = as_closed i
advanced c i Malformed = i

abbrev pub applied : Monitor → Event → Monitor
applied m e = record { configuration = configured m.configuration e; instance = advanced m.configuration m.instance e }

-- the workspace: after an action answered 0 or 9 it speaks of the actions with the tried one; else it is untouched, after a close too ("leaves
-- the room alone")
abbrev pub workspace_after : Configuration → Instance → Event → ℕ → List ℕ → List ℕ
workspace_after c i (Acts u a) k before = cond (eqb k ACCEPTED || eqb k NOT_POSSIBLE) (filled (term i) (tried c i u) before) before
workspace_after c i (Grants u r) k before = before
workspace_after c i (Revokes u r) k before = before
workspace_after c i Closes k before = before
workspace_after c i Malformed k before = before

-- the number of a word on a monitor, and the monitor that it leaves; n is the length of the workspace
abbrev pub event_code : Monitor → ℕ → ℕ → ℕ
event_code m w n = code (event_refusals m (event_in m w) (is_short w n))

abbrev pub event_monitor : Monitor → ℕ → ℕ → Monitor
event_monitor m w n = cond (eqb (event_code m w n) 0) (applied m (event_in m w)) m

-- the number, the monitor and the workspace
pub record Outcome : Type 0 where
  pub code : ℕ
  pub monitor : Monitor
  pub workspace : List ℕ

unfoldable pub outcome : Monitor → ℕ → List ℕ → Outcome
outcome m w before = record {
  code = event_code m w (length before);
  monitor = event_monitor m w (length before);
  workspace = workspace_after m.configuration m.instance (event_in m w) (event_code m w (length before)) before;
}

-- what a call of src leaves of what it is given: a refusal keeps it
abbrev pub left_after : {T : Type 0} → T → Result T Refusal → T
left_after before (Ok after) = after
left_after before (Err r) = before
