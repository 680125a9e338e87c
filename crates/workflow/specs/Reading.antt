-- Permissions and workflow as an opening is given them (document 02, E4): "Both or neither are given, an empty one counting as not given and
-- one alone as 19".
use Rattle.std.specs.Prelude.{Bool, true, false, ◌&&◌, ◌||◌, cond, List, ℕ, ◌+◌, ◌*◌, leb, eqb, length, get_or, replicate, Option, Some, None}
use Rattle.workflow.specs.declared.Workflow.{Workflow}
use Rattle.workflow.specs.declared.SecureWorkflow.{SecureWorkflow}
use Rattle.workflow.specs.Permissions.{permissions_ok, permission_rows}
use Rattle.workflow.specs.Workflows.{no_workflow, is_given, workflow_ok, workflow_of}

-- four bytes, and three for each of at most 64 transitions
abbrev pub workflow_length_ok : List ℕ → Bool
workflow_length_ok b = leb 4 (length b) && (leb (get_or b 1 0) 64 && eqb (length b) (4 + 3 * get_or b 1 0))

-- bytes that say a workflow with at least one state
unfoldable pub says_workflow : List ℕ → Bool
says_workflow b = workflow_length_ok b && (is_given (workflow_of b) && workflow_ok (workflow_of b))

-- neither is given
abbrev pub are_empty : List ℕ → List ℕ → Bool
are_empty permissions workflow = eqb (length permissions) 0 && eqb (length workflow) 0

-- 19 applies where this is false; one alone is never in form
unfoldable pub secure_ok : ℕ → List ℕ → List ℕ → Bool
secure_ok roles permissions workflow = are_empty permissions workflow || (permissions_ok roles permissions && says_workflow workflow)

-- what is read, and whether it is accepted
pub record SecureRead : Type 0 where
  pub workflow : Workflow
  pub permissions : List ℕ
  pub accepted : Bool

-- all zero
unfoldable pub not_given : Bool → SecureRead
not_given b = record { accepted = b; permissions = replicate 16 0; workflow = no_workflow }

-- what is read: what both say where they are in form; else all zero, and accepted where neither is given
unfoldable pub secure_of : ℕ → List ℕ → List ℕ → SecureRead
secure_of roles permissions workflow = cond (permissions_ok roles permissions && says_workflow workflow)
    (record { accepted = true; permissions = permission_rows roles permissions; workflow = workflow_of workflow })
    (not_given (are_empty permissions workflow))

-- the code's answer: what is accepted, or nothing
abbrev pub as_read : Option SecureWorkflow → SecureRead
as_read (Some s) = record { accepted = true; permissions = s.permissions; workflow = s.workflow }
as_read None = not_given false
