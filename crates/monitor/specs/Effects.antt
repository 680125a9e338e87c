-- What events alter (document 01, "An accepted event alters only its own part" and "a refusal gives only its number"). Statements only.
use Rattle.std.specs.Prelude.{◌≡◌, ◌≢◌, Bool, true, false, not, List, ℕ, ◌+◌, length, get_or}
use Rattle.std.proofs.Math.Bool.{So}
use Rattle.soda.specs.Roles.{assigned}
use Rattle.soda.specs.declared.Action.{Action}
use Rattle.policy.specs.Codes.{NOT_POSSIBLE}
use Rattle.configuration.specs.declared.Configuration.{Configuration}
use Rattle.instance.specs.declared.Instance.{Instance}
use Rattle.monitor.specs.declared.Monitor.{Monitor}
use Rattle.configuration.specs.Configurations.{held}
use Rattle.soda.specs.Tables.{satisfied}
use Rattle.instance.specs.Letters.{letter_d, open_letter}
use Rattle.instance.specs.Instances.{term, is_closed, no_action, noted_for}
use Rattle.instance.specs.Steps.{leads_to, state_of}
use Rattle.monitor.specs.Monitors.{Opening, open_code, fresh, well_formed}
use Rattle.monitor.specs.Events.{Event, Acts, Grants, Revokes, Closes, Malformed, event_in, tried, applied, outcome}

-- the policy, and the action at a place
abbrev pub policy_in : Instance → List ℕ × ℕ
policy_in i = (i.policy, i.words)

abbrev pub place : Instance → ℕ → Action
place i k = get_or i.actions k no_action

-- j is i with the action a at the next place, one more in number, the workflow in state s, and the letter l
pub record ActionAlone (i : Instance) (a : Action) (s l : ℕ) (j : Instance) : Type 0 where
  pub same_policy : policy_in j ≡ policy_in i
  pub same_workflow : j.workflow ≡ i.workflow
  pub moved : j.state ≡ s
  pub lettered : j.status ≡ l
  pub same_mark : j.closed ≡ i.closed
  pub one_more : j.taken ≡ i.taken + 1
  pub here : place j i.taken ≡ a
  pub elsewhere : (k : ℕ) → k ≢ i.taken → place j k ≡ place i k

-- j is i with the mark set, and the letter with it
pub record MarkAlone (i j : Instance) : Type 0 where
  pub same_policy : policy_in j ≡ policy_in i
  pub same_workflow : j.workflow ≡ i.workflow
  pub same_state : j.state ≡ i.state
  pub same_actions : j.actions ≡ i.actions
  pub same_number : j.taken ≡ i.taken
  pub here : is_closed j ≡ true
  pub lettered : j.status ≡ letter_d

-- d is c with the bit of role r in the row of user u as it is to be, b
pub record BitAlone (c : Configuration) (u r : ℕ) (b : Bool) (d : Configuration) : Type 0 where
  pub same_permissions : d.permissions ≡ c.permissions
  pub same_users : d.users ≡ c.users
  pub same_roles : d.roles ≡ c.roles
  pub here : assigned d.user_roles u r ≡ b
  pub other_roles : (s : ℕ) → s ≢ r → assigned d.user_roles u s ≡ assigned c.user_roles u s
  pub other_users : (v : ℕ) → v ≢ u → held d v ≡ held c v

-- an event's own part
abbrev pub OwnPart : Monitor → Event → Monitor → Type 0
OwnPart m (Acts u a) l =
    (l.configuration ≡ m.configuration)
    × ActionAlone m.instance (noted_for m.configuration m.instance u) (state_of (leads_to m.instance a))
    (open_letter (satisfied (term m.instance) 0 (tried m.configuration m.instance u))) l.instance
OwnPart m (Grants u r) l = (l.instance ≡ m.instance) × BitAlone m.configuration u r true l.configuration
OwnPart m (Revokes u r) l = (l.instance ≡ m.instance) × BitAlone m.configuration u r false l.configuration
OwnPart m Closes l = (l.configuration ≡ m.configuration) × MarkAlone m.instance l.instance
OwnPart m Malformed l = ⊥

-- An accepted event alters only its own part. (The places of an instance are always twelve.)
abbrev pub AcceptedAltersItsPart : Type 0
AcceptedAltersItsPart =
    (m : Monitor) (w : ℕ) (before : List ℕ) → length m.instance.actions ≡ 12 → (outcome m w before).code ≡ 0
    → OwnPart m (event_in m w) (outcome m w before).monitor

-- A grant already held and a revocation of one not held alter nothing.
abbrev pub HeldAltersNothing : Type 0
HeldAltersNothing =
    (m : Monitor) (u r : ℕ)
    → (So (assigned m.configuration.user_roles u r) → applied m (Grants u r) ≡ m)
    × (So (not (assigned m.configuration.user_roles u r)) → applied m (Revokes u r) ≡ m)

-- A refusal keeps the monitor, and but for 9 the workspace.
abbrev pub RefusalAltersNothing : Type 0
RefusalAltersNothing =
    (m : Monitor) (w : ℕ) (before : List ℕ) → (outcome m w before).code ≢ 0
    → ((outcome m w before).monitor ≡ m)
    × ((outcome m w before).code ≢ NOT_POSSIBLE → (outcome m w before).workspace ≡ before)

-- An opened monitor is well formed, and an accepted event leaves it so: 15 is never the answer about one that the product made.
abbrev pub OpenedIsWellFormed : Type 0
OpenedIsWellFormed = (o : Opening) → open_code o ≡ 0 → So (well_formed (fresh o))

abbrev pub AcceptedStaysWellFormed : Type 0
AcceptedStaysWellFormed =
    (m : Monitor) (w : ℕ) (before : List ℕ) → length m.instance.actions ≡ 12 → (outcome m w before).code ≡ 0
    → So (well_formed (outcome m w before).monitor)

-- Whatever an event answers, it leaves a well-formed monitor well formed.
abbrev pub EventKeepsWellFormed : Type 0
EventKeepsWellFormed =
    (m : Monitor) (w : ℕ) (before : List ℕ) → length m.instance.actions ≡ 12 → So (well_formed m)
    → So (well_formed (outcome m w before).monitor)
