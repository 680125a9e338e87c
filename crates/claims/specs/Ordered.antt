-- What an opening says of permissions and workflow (document 02, E4), as document 004 has them.
use Rattle.std.specs.Prelude.{Bool, not, ◌||◌, ℕ, Option}
use Rattle.soda.specs.Roles.{roles, PA, authorized}
use Rattle.soda.specs.Traces.{Trace, upd}
use Rattle.soda.specs.Workflows.{Transitions, successor, follow, reached, is_final}
use Rattle.workflow.specs.Permissions.{permissions_in}
use Rattle.workflow.specs.Workflows.{transitions_of, workflow_of}
use Rattle.workflow.specs.Reading.{are_empty}
use Rattle.monitor.specs.Monitors.{Opening}

-- both are given: they are not both empty, and 19 refuses one alone
abbrev pub is_ordered : Opening → Bool
is_ordered o = not (are_empty o.permissions o.workflow)

-- PA, the transitions and the final states, as the bytes say them
abbrev pub permissions_of : Opening → PA
permissions_of o = permissions_in o.roles o.permissions

abbrev pub ordering : Opening → Transitions
ordering o = transitions_of (workflow_of o.workflow)

abbrev pub finals : Opening → ℕ
finals o = (workflow_of o.workflow).final_states

-- after a trace of accepted events: where the workflow is, where an action would lead, and whether it may end
abbrev pub state_after : Opening → Trace → Option ℕ
state_after o t = reached (ordering o) 0 t

abbrev pub leads_after : Opening → Trace → ℕ → Option ℕ
leads_after o t a = follow (state_after o t) (λ s. successor (ordering o) s a)

abbrev pub may_end : Opening → Trace → Bool
may_end o t = not (is_ordered o) || is_final (finals o) (state_after o t)

-- .. and whether a role that user u then holds gives action a
abbrev pub is_permitted : Opening → Trace → ℕ → ℕ → Bool
is_permitted o t u a = authorized (permissions_of o) (roles (upd o.rows t) u) a
