-- What permissions and workflow say to an action and to a close (document 02, E4). Where neither is given, "every action is permitted and no
-- final state is asked".
use Rattle.std.specs.Prelude.{Bool, not, ◌||◌, cond, [], ◌∷◌, ℕ, eqb, Option, Some, None, Result, Ok, Err}
use Rattle.soda.specs.Roles.{authorized}
use Rattle.soda.specs.Workflows.{successor, is_somewhere}
use Rattle.policy.specs.Codes.{NOT_AUTHORIZED, NO_TRANSITION}
use Rattle.policy.specs.Refusals.{Refusals, ◌gives◌, code}
use Rattle.policy.specs.Faults.{code_number}
use Rattle.policy.specs.Answers.{code_of}
use Rattle.policy.specs.declared.refusal.Refusal.{Refusal}
use Rattle.workflow.specs.Workflows.{transitions_of, is_final_state}
use Rattle.configuration.specs.declared.Configuration.{Configuration}
use Rattle.instance.specs.declared.Instance.{Instance}
use Rattle.configuration.specs.Configurations.{held}
use Rattle.instance.specs.Instances.{has_workflow}

-- a role that user u holds now gives action a
unfoldable pub is_authorized : Configuration → Instance → ℕ → ℕ → Bool
is_authorized c i u a = not (has_workflow i) || authorized c.permissions (held c u) a

-- where action a leads from the present state; without a workflow it stays in state 0
unfoldable pub leads_to : Instance → ℕ → Option ℕ
leads_to i a = cond (has_workflow i) (successor (transitions_of i.workflow) i.state a) (Some 0)

-- "16 when no role the person holds gives the action, 17 when the plan has no arrow for it"
abbrev pub step_refusals : Configuration → Instance → ℕ → ℕ → Refusals
step_refusals c i u a = (not (is_authorized c i u a) gives NOT_AUTHORIZED) ∷ (not (is_somewhere (leads_to i a)) gives NO_TRANSITION) ∷ []

-- the state that it leads to; 0 where it leads nowhere
abbrev pub state_of : Option ℕ → ℕ
state_of (Some s) = s
state_of None = 0

-- what permissions and workflow say to an action: the state that it leads to, or the number of its refusal
pub data Step : Type 0 where
  To : ℕ → Step
  Refused : ℕ → Step

abbrev pub step_in : ℕ → ℕ → Step
step_in k s = cond (eqb k 0) (To s) (Refused k)

unfoldable pub step_of : Configuration → Instance → ℕ → ℕ → Step
step_of c i u a = step_in (code (step_refusals c i u a)) (state_of (leads_to i a))

-- what `step` of src answers
abbrev pub as_step : Result ℕ Refusal → Step
as_step (Ok s) = To s
as_step (Err r) = Refused (code_number (code_of r))

-- "A close also needs a final state"
unfoldable pub is_final : Instance → Bool
is_final i = not (has_workflow i) || is_final_state i.workflow i.state
