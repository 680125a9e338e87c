-- What the monitor's private functions ask for and give.
use Rattle.std.specs.Prelude.{◌≡◌, ◌&&◌, cond, List, map, ℕ, ◌-◌, ◌≤◌, ◌<◌, leb, ltb, eqb, length, Result, IfOk}
use Rattle.std.proofs.Math.Bool.{So}
use Rattle.soda.specs.Bits.{number}
use Rattle.soda.specs.Lists.{range}
use Rattle.soda.specs.Tables.{possible}
use Rattle.policy.specs.Refusals.{code}
use Rattle.policy.specs.Answers.{answer_number}
use Rattle.policy.specs.declared.refusal.Refusal.{Refusal}
use Rattle.units.specs.Units.{met_of}
use Rattle.workspace.specs.Workspace.{filled}
use Rattle.workspace.specs.Trials.{Trials}
use Rattle.configuration.specs.declared.Configuration.{Configuration}
use Rattle.instance.specs.declared.Instance.{Instance}
use Rattle.monitor.specs.declared.Monitor.{Monitor}
use Rattle.configuration.specs.Configurations.{held, configuration_ok}
use Rattle.monitor.specs.Monitors.{monitor_refusals}
use Rattle.instance.specs.Instances.{policy_of, term, as_closed, instance_ok}
use Rattle.instance.specs.Candidates.{is_candidate, candidates_of}
use Rattle.monitor.specs.Events.{Event, Acts, Grants, Revokes, Closes, Malformed, tried, close_refusals, own_refusals, advanced, applied, workspace_after, Outcome}

-- what is noted of user u
abbrev pub Meets : Configuration → Instance → ℕ → ℕ → Type 0
Meets c i u met = met ≡ met_of (policy_of i) u (held c u)

-- 15 or 0, and for 0 what user u meets
pub record Checked (m : Monitor) (u : ℕ) (r : Result ℕ Refusal) : Type 0 where
  pub number : answer_number r ≡ code (monitor_refusals m)
  pub meets : IfOk r (Meets m.configuration m.instance u)

-- one more action by each candidate tried behind the taken ones: who can act, and the workspace that speaks of the last candidate's trial;
-- where there is no candidate, and with twelve actions, nobody, and the workspace as it was
abbrev pub each_tried : Configuration → Instance → ℕ → List ℕ → Trials
each_tried c i a before = cond (ltb i.taken 12 && leb 1 (candidates_of c i a).behind)
    (record {
      mask = number (map (λ u. is_candidate c i a u && possible (term i) 0 (tried c i u)) (range 0 c.users));
      workspace = filled (term i) (tried c i ((candidates_of c i a).behind - 1)) before;
    })
    (record { mask = 0; workspace = before })

-- 15 does not apply to the two parts
pub record Sound (c : Configuration) (i : Instance) : Type 0 where
  pub configuration_is_ok : So (configuration_ok c)
  pub instance_is_ok : So (instance_ok c i)

-- .. nor 12
pub record Admitted (c : Configuration) (i : Instance) (before : List ℕ) : Type 0 where
  pub long : 8192 ≤ length before
  pub configuration_is_ok : So (configuration_ok c)
  pub instance_is_ok : So (instance_ok c i)

-- what an event to which 7 does not apply names is declared
abbrev pub Entered : Configuration → Event → Type 0
Entered c (Acts u a) = u < c.users
Entered c (Grants u r) = (u < c.users) × (r < c.roles)
Entered c (Revokes u r) = (u < c.users) × (r < c.roles)
Entered c Closes = Unit
Entered c Malformed = ⊥

-- the workspace is long enough for an event; an action alone asks for one
abbrev pub LongEnough : Event → List ℕ → Type 0
LongEnough (Acts u a) before = 8192 ≤ length before
LongEnough (Grants u r) before = Unit
LongEnough (Revokes u r) before = Unit
LongEnough Closes before = Unit
LongEnough Malformed before = Unit

-- the user who acts; 0 if the event is no action
abbrev pub actor : Event → ℕ
actor (Acts u a) = u
actor (Grants u r) = 0
actor (Revokes u r) = 0
actor Closes = 0
actor Malformed = 0

-- what the user of an action meets
abbrev pub Noting : Monitor → Event → ℕ → Type 0
Noting m (Acts u a) met = Meets m.configuration m.instance u met
Noting m (Grants u r) met = Unit
Noting m (Revokes u r) met = Unit
Noting m Closes met = Unit
Noting m Malformed met = Unit

-- what a close gives to an instance
pub record CloseOutcome : Type 0 where
  pub code : ℕ
  pub instance : Instance

abbrev pub close_outcome : Instance → CloseOutcome
close_outcome i = record {
  code = code (close_refusals i);
  instance = cond (eqb (code (close_refusals i)) 0) (as_closed i) i;
}

-- what an event gives to an instance to which none of 12, 15, 10 and 7 applies
pub record InstanceOutcome : Type 0 where
  pub code : ℕ
  pub instance : Instance
  pub workspace : List ℕ

abbrev pub own_outcome : Configuration → Instance → Event → List ℕ → InstanceOutcome
own_outcome c i e before = record {
  code = code (own_refusals c i e);
  instance = cond (eqb (code (own_refusals c i e)) 0) (advanced c i e) i;
  workspace = workspace_after c i e (code (own_refusals c i e)) before;
}

-- what an event gives to such a monitor
abbrev pub monitor_outcome : Monitor → Event → List ℕ → Outcome
monitor_outcome m e before = record {
  code = code (own_refusals m.configuration m.instance e);
  monitor = cond (eqb (code (own_refusals m.configuration m.instance e)) 0) (applied m e) m;
  workspace = workspace_after m.configuration m.instance e (code (own_refusals m.configuration m.instance e)) before;
}
