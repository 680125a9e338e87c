-- What an accepted opening makes of its permissions and its workflow: they are given exactly where they are not both empty, and then they are
-- what the bytes say.
use mathlib.Core.Path.{◌≡◌, ap, subst, ◌∙◌}
use mathlib.Core.Bool.{Bool, true, false, So, ◌&&◌, and-false}
use mathlib.Core.List.{List}
use Prim.Native.Nat.{ℕ, ◌-◌}
use lib.Dec.{eqb}
use lib.ListN.{length}
use borrow.Author.Tests.{not-true}
use Rattle.soda.specs.Roles.{authorized}
use Rattle.soda.specs.Workflows.{deterministic}
use Rattle.soda.proofs.Bools.{by_test, and_split, so_eq}
use Rattle.soda.proofs.Workflows.{zero-rows_give_nothing}
use Rattle.workflow.specs.Permissions.{permissions_ok, permission_rows}
use Rattle.workflow.specs.declared.Workflow.{Workflow}
use Rattle.workflow.specs.Workflows.{transitions_of, is_given, workflow_of}
use Rattle.workflow.specs.Reading.{are_empty, says_workflow, secure_ok, secure_of}
use Rattle.workflow.proofs.Formed.{says_nothing, read_is-formed, formed-is-deterministic}
use Rattle.monitor.specs.Monitors.{Opening, secure, open_code}
use Rattle.monitor.proofs.Formed.{opened-secure_ok}
use Rattle.claims.specs.Ordered.{is_ordered, permissions_of, ordering}

module _ (o : Opening) (z : open_code o ≡ 0) where
  abbrev in_form : Bool
  in_form = permissions_ok o.roles o.permissions && says_workflow o.workflow

  -- nothing is no workflow
  empty_is-none : So (are_empty o.permissions o.workflow) → in_form ≡ false
  empty_is-none h =
      let none = so_eq (length o.workflow) 0 (and_split (eqb (length o.permissions) 0) (eqb (length o.workflow) 0) h).1 in
      ap (λ (b : Bool). permissions_ok o.roles o.permissions && b) (says_nothing o.workflow none) ∙ and-false (permissions_ok o.roles o.permissions)

  some-is-form : are_empty o.permissions o.workflow ≡ false → in_form ≡ true
  unfolding secure_ok
  some-is-form f = rw f at (opened-secure_ok o z)

  pub given-is_ordered : is_given (secure o).workflow ≡ is_ordered o
  given-is_ordered =
      (read_is-formed o.roles o.permissions o.workflow).given
      ∙ by_test (are_empty o.permissions o.workflow) (λ t. empty_is-none t ∙ rw t) (λ f. some-is-form f ∙ rw f)

  module _ (h : So (is_ordered o)) where
    form : in_form ≡ true
    form = some-is-form (not-true (are_empty o.permissions o.workflow) h)

    pub same_workflow : (secure o).workflow ≡ workflow_of o.workflow
    unfolding secure_of
    same_workflow = rw form

    same_permissions : (secure o).permissions ≡ permission_rows o.roles o.permissions
    unfolding secure_of
    same_permissions = rw form

    pub same-authorized : (held a : ℕ) → authorized (secure o).permissions held a ≡ authorized (permissions_of o) held a
    unfolding permission_rows
    same-authorized held a =
        ap (λ (l : List ℕ). authorized l held a) same_permissions ∙ zero-rows_give_nothing (permissions_of o) (16 - length (permissions_of o)) held a

    pub is-deterministic : So (deterministic (ordering o))
    is-deterministic =
        subst (λ (w : Workflow). So (deterministic (transitions_of w))) same_workflow
        (formed-is-deterministic (secure o).workflow (read_is-formed o.roles o.permissions o.workflow).formed)
