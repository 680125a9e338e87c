-- An action that leads somewhere leaves the workflow well formed, in a state that it has.
use Rattle.std.specs.Prelude.{Option, Some, None}
use mathlib.Core.Path.{◌≡◌, refl}
use mathlib.Core.Bool.{Bool, true, false, So, ◌&&◌, cond}
use Prim.Native.Nat.{ℕ}
use lib.Dec.{ltb}
use Rattle.soda.specs.Lists.{all}
use Rattle.soda.specs.Workflows.{successor, is_somewhere}
use Rattle.soda.proofs.Bools.{never, and_split, and-join, lt_so}
use Rattle.workflow.specs.Workflows.{transitions_of, workflow_ok}
use Rattle.workflow.proofs.Formed.{successor-is-declared}
use Rattle.configuration.specs.declared.Configuration.{Configuration}
use Rattle.instance.specs.declared.Instance.{Instance}
use Rattle.configuration.specs.Configurations.{is_zero}
use Rattle.instance.specs.Instances.{has_workflow}
use Rattle.instance.specs.Steps.{leads_to, state_of}
use Rattle.instance.specs.Laws.{StepStaysPlaced}

module _ (c : Configuration) (i : Instance) (a : ℕ) where
  abbrev next : Option ℕ
  next = successor (transitions_of i.workflow) i.state a

  abbrev zeros : Bool
  zeros = all is_zero c.permissions

  -- the test of the state, of a workflow that is given or is not
  abbrev state_ok : Bool → ℕ → Bool
  state_ok b s = cond b (ltb s i.workflow.states) (is_zero s && zeros)

  declared : So (workflow_ok i.workflow) → (s : Option ℕ) → next ≡ s → So (is_somewhere s) → So (ltb (state_of s) i.workflow.states)
  declared w (Some n) e k = lt_so n i.workflow.states (successor-is-declared i.workflow i.state a n w e)
  declared w None e k = never k

  moved : So (workflow_ok i.workflow) → (b : Bool) → So (state_ok b i.state) → So (is_somewhere (cond b next (Some 0))) → So (state_ok b (state_of (cond b next (Some 0))))
  moved w true h k = declared w next refl k
  moved w false h k = and-join true zeros refl (and_split (is_zero i.state) zeros h).1

pub step_stays_placed : StepStaysPlaced
unfolding leads_to
step_stays_placed c i x a h k =
    let (w, s) = and_split (workflow_ok i.workflow) (state_ok c i a (has_workflow i) i.state) h in
    and-join (workflow_ok i.workflow) (state_ok c i a (has_workflow i) (state_of (leads_to i a))) w (moved c i a w (has_workflow i) s k)
