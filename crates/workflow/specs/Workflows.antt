-- The workflow (document 02, E4: work plan) as a monitor keeps it and as bytes say it. Its process is W of soda.
use Rattle.std.specs.Prelude.{Bool, not, ◌&&◌, List, ◌++◌, map, ℕ, ◌+◌, ◌-◌, ◌*◌, ◌^◌, leb, ltb, eqb, get_or, take, drop, replicate}
use Rattle.soda.specs.Bits.{bit}
use Rattle.soda.specs.Lists.{all, range}
use Rattle.soda.specs.Workflows.{Transitions, no_transition, deterministic}
use Rattle.soda.specs.declared.Transition.{Transition}
use Rattle.workflow.specs.declared.Workflow.{Workflow}
use Rattle.workflow.specs.Permissions.{low_first}

abbrev pub transitions_of : Workflow → Transitions
transitions_of w = take w.count w.transitions

-- not given: all zero
unfoldable pub no_workflow : Workflow
no_workflow = record { transitions = replicate 64 no_transition; final_states = 0; states = 0; count = 0 }

-- a workflow that is given has 1 to 16 states
abbrev pub is_given : Workflow → Bool
is_given w = not (eqb w.states 0)

abbrev pub is_final_state : Workflow → ℕ → Bool
is_final_state w s = bit s w.final_states

-- ── when it is well formed ──
-- "an undeclared state, an arrow's action above 63"
abbrev pub transition_ok : ℕ → Transition → Bool
transition_ok states x = ltb x.state states && (ltb x.next states && ltb x.action 64)

abbrev pub is_idle : Transition → Bool
is_idle x = eqb x.state 0 && (eqb x.action 0 && eqb x.next 0)

-- "a count out of range, an undeclared state, an arrow's action above 63 or two arrows with the same state and action", "or unused ones not
-- zero": none of it. Without a state this is the workflow that is not given (`NotGivenIsZero` of Laws).
unfoldable pub workflow_ok : Workflow → Bool
workflow_ok w =
    leb w.states 16
    && (leb w.count 64
    && (ltb w.final_states (2 ^ w.states)
    && ((all (transition_ok w.states) (transitions_of w) && deterministic (transitions_of w))
    && all is_idle (drop w.count w.transitions))))

-- ── in bytes ──
-- "a byte counting states, one counting arrows, two, low first, with a bit for each final state, then three an arrow"
abbrev pub transition_at : List ℕ → ℕ → Transition
transition_at b k = record { state = get_or b k 0; action = get_or b (k + 1) 0; next = get_or b (k + 2) 0 }

abbrev pub transitions_in : List ℕ → ℕ → Transitions
transitions_in b n = map (λ i. transition_at b (4 + 3 * i)) (range 0 n)

unfoldable pub workflow_of : List ℕ → Workflow
workflow_of b = record {
  transitions = transitions_in b (get_or b 1 0) ++ replicate (64 - get_or b 1 0) no_transition;
  final_states = low_first 2 b 2;
  states = get_or b 0 0;
  count = get_or b 1 0;
}
