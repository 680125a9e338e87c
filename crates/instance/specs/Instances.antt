-- The instance: a policy, a workflow and its present state, the actions taken under them, the closed mark and the letter of the status, over
-- a configuration.
use Rattle.std.specs.Prelude.{Bool, true, false, not, ◌&&◌, ◌||◌, cond, List, ℕ, ◌+◌, leb, ltb, eqb, length, take, drop, set as put, replicate, Option, Some, None}
use Rattle.std.specs.Int.Bits.{bit_and}
use Rattle.soda.specs.Lists.{all, padded}
use Rattle.soda.specs.Terms.{Term}
use Rattle.soda.specs.declared.Action.{Action}
use Rattle.policy.specs.Refusals.{code}
use Rattle.policy.specs.Words.{decode, term_of}
use Rattle.policy.specs.Reading.{refusals, units_of}
use Rattle.units.specs.Units.{met_of}
use Rattle.workflow.specs.declared.Workflow.{Workflow}
use Rattle.workflow.specs.Workflows.{no_workflow, is_given, workflow_ok}
use Rattle.configuration.specs.declared.Configuration.{Configuration}
use Rattle.instance.specs.declared.Instance.{Instance}
use Rattle.configuration.specs.Configurations.{held, is_zero}
use Rattle.instance.specs.Letters.{letter_d, letter_c, letter_o}

-- ── its parts ──
abbrev pub policy_of : Instance → List ℕ
policy_of i = take i.words i.policy

abbrev pub taken_of : Instance → List Action
taken_of i = take i.taken i.actions

abbrev pub term : Instance → Term
term i = term_of (decode (policy_of i))

-- a workflow is given, and with it permissions
abbrev pub has_workflow : Instance → Bool
has_workflow i = is_given i.workflow

-- the mark is a byte: 0 is open, every other value closed
abbrev pub is_closed : Instance → Bool
is_closed i = not (eqb i.closed 0)

-- ── as it starts ──
abbrev pub no_action : Action
no_action = record { user = 0; met = 0 }

-- all zero
abbrev pub no_instance : Instance
no_instance = record { policy = replicate 31 0; actions = replicate 12 no_action; workflow = no_workflow; words = 0; taken = 0; closed = 0; status = 0; state = 0 }

-- under these words and this workflow, in state 0: no action, not closed, and (document 02, E6) "Opening sets it to `o`"; policy words past
-- its length are zero
abbrev pub instance_of : List ℕ → Workflow → Instance
instance_of words w =
    record { policy = padded 31 words; actions = replicate 12 no_action; workflow = w; words = length words; taken = 0; closed = 0; status = letter_o; state = 0 }

-- ── what is noted ──
-- of an action by user u, who holds these roles: bit i for the unit term at word i
abbrev pub noted : List ℕ → ℕ → ℕ → Action
noted words u h = record { user = u; met = met_of words u h }

-- by the roles that the user holds in the configuration
abbrev pub noted_for : Configuration → Instance → ℕ → Action
noted_for c i u = noted (policy_of i) u (held c u)

-- ── what an accepted event alters: its own part alone ──
-- an action the next place, their number and the present state s
abbrev pub with_action : Instance → Action → ℕ → Instance
with_action i a s = record {
  policy = i.policy;
  actions = put i.actions i.taken a;
  workflow = i.workflow;
  words = i.words;
  taken = i.taken + 1;
  closed = i.closed;
  status = i.status;
  state = s;
}

-- .. and the letter l of the status
abbrev pub with_status : Instance → ℕ → Instance
with_status i l = record {
  policy = i.policy;
  actions = i.actions;
  workflow = i.workflow;
  words = i.words;
  taken = i.taken;
  closed = i.closed;
  status = l;
  state = i.state;
}

-- a close the mark, and it "sets `d`"
abbrev pub as_closed : Instance → Instance
as_closed i = record {
  policy = i.policy;
  actions = i.actions;
  workflow = i.workflow;
  words = i.words;
  taken = i.taken;
  closed = 1;
  status = letter_d;
  state = i.state;
}

-- ── its part of number 15 ──
abbrev pub is_idle : Action → Bool
is_idle a = is_zero a.user && is_zero a.met

-- a taken action: by a declared user, no bit at a word that begins no unit term
abbrev pub action_ok : ℕ → ℕ → Action → Bool
action_ok users units a = ltb a.user users && eqb (bit_and a.met units) a.met

-- its policy would be accepted
abbrev pub is_readable : Configuration → Instance → Bool
is_readable c i = leb i.words 31 && eqb (code (refusals c.users c.roles (policy_of i))) 0

-- at most twelve actions, each as above
abbrev pub is_taken_ok : Configuration → Instance → Bool
is_taken_ok c i = leb i.taken 12 && all (action_ok c.users (units_of (decode (policy_of i)))) (taken_of i)

-- every unused policy word and place is zero
abbrev pub is_tidy : Instance → Bool
is_tidy i = all is_zero (drop i.words i.policy) && all is_idle (drop i.taken i.actions)

-- its workflow is well formed and in a state that it has; without a workflow, its state and the permissions are zero
abbrev pub is_placed : Configuration → Instance → Bool
is_placed c i =
    workflow_ok i.workflow
    && cond (has_workflow i) (ltb i.state i.workflow.states) (is_zero i.state && all is_zero c.permissions)

-- document 02, E6: not so "when the letter is none of the three, is `d` without the closed mark or the reverse, or is not `o` on an unclosed
-- sheet with no action"
abbrev pub is_lettered : Instance → Bool
is_lettered i = cond (is_closed i) (eqb i.status letter_d) (eqb i.status letter_o || (eqb i.status letter_c && not (is_zero i.taken)))

unfoldable pub instance_ok : Configuration → Instance → Bool
instance_ok c i = is_readable c i && (is_taken_ok c i && (is_tidy i && (is_placed c i && is_lettered i)))

-- whether it is so, and then what user u meets
pub record Check : Type 0 where
  pub well_formed : Bool
  pub met : ℕ

abbrev pub check_in : Bool → ℕ → Check
check_in ok met = record { well_formed = ok; met = cond ok met 0 }

abbrev pub check_of : Configuration → Instance → ℕ → Check
check_of c i u = check_in (instance_ok c i) (met_of (policy_of i) u (held c u))

-- what `check` of src answers: nothing for an instance that is not so
abbrev pub as_check : Option ℕ → Check
as_check (Some met) = record { well_formed = true; met = met }
as_check None = record { well_formed = false; met = 0 }
