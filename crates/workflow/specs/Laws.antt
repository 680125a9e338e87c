-- What is proved of permissions and workflows. Statements only.
use Rattle.std.specs.Prelude.{◌≡◌, false, not, ◌&&◌, ◌||◌, List, ℕ, ◌≤◌, ◌<◌, eqb, length, drop, Some}
use Rattle.std.proofs.Math.Bool.{So}
use Rattle.soda.specs.Lists.{all}
use Rattle.soda.specs.Workflows.{deterministic, successor}
use Rattle.workflow.specs.declared.Workflow.{Workflow}
use Rattle.workflow.specs.Permissions.{permissions_ok}
use Rattle.workflow.specs.Workflows.{transitions_of, no_workflow, is_given, workflow_ok}
use Rattle.workflow.specs.Reading.{says_workflow, secure_ok, secure_of}

-- "unused ones not zero": a well-formed workflow that is not given is all zero. (The places of a workflow are always 64.)
abbrev pub NotGivenIsZero : Type 0
NotGivenIsZero = (w : Workflow) → length w.transitions ≡ 64 → So (workflow_ok w) → is_given w ≡ false → w ≡ no_workflow

-- In a well-formed workflow no two transitions have the same state and action, and a transition leads to a declared state.
abbrev pub FormedIsDeterministic : Type 0
FormedIsDeterministic = (w : Workflow) → So (workflow_ok w) → So (deterministic (transitions_of w))

abbrev pub SuccessorIsDeclared : Type 0
SuccessorIsDeclared = (w : Workflow) (s a n : ℕ) → So (workflow_ok w) → successor (transitions_of w) s a ≡ Some n → n < w.states

-- One alone is refused: there is at least one role.
abbrev pub OneAloneIsRefused : Type 0
OneAloneIsRefused =
    (roles : ℕ) (permissions workflow : List ℕ) → 1 ≤ roles → So (not (eqb (length permissions) 0 && eqb (length workflow) 0))
    → So (eqb (length permissions) 0 || eqb (length workflow) 0) → secure_ok roles permissions workflow ≡ false

-- What is read is given exactly where both are in form, and is well formed: its workflow, the rows past the roles, and without a workflow
-- every row.
pub record Read (roles : ℕ) (permissions workflow : List ℕ) : Type 0 where
  pub accepted : (secure_of roles permissions workflow).accepted ≡ secure_ok roles permissions workflow
  pub given : is_given (secure_of roles permissions workflow).workflow ≡ (permissions_ok roles permissions && says_workflow workflow)
  pub formed : So (workflow_ok (secure_of roles permissions workflow).workflow)
  pub places : length (secure_of roles permissions workflow).workflow.transitions ≡ 64
  pub rows : length (secure_of roles permissions workflow).permissions ≡ 16
  pub past : So (all (λ n. eqb n 0) (drop roles (secure_of roles permissions workflow).permissions))
  pub without : is_given (secure_of roles permissions workflow).workflow ≡ false
      → So (all (λ n. eqb n 0) (secure_of roles permissions workflow).permissions)

abbrev pub ReadIsFormed : Type 0
ReadIsFormed = (roles : ℕ) (permissions workflow : List ℕ) → Read roles permissions workflow
