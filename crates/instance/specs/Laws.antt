-- What is proved of an instance. Statements only.
use Rattle.std.specs.Prelude.{◌≡◌, [], ◌∷◌, ◌++◌, ℕ, ◌<◌, length}
use Rattle.std.proofs.Math.Bool.{So}
use Rattle.soda.specs.Workflows.{is_somewhere}
use Rattle.soda.specs.declared.Action.{Action}
use Rattle.configuration.specs.declared.Configuration.{Configuration}
use Rattle.instance.specs.declared.Instance.{Instance}
use Rattle.instance.specs.Letters.{is_letter}
use Rattle.instance.specs.Instances.{taken_of, is_placed, with_action, is_lettered}
use Rattle.instance.specs.Steps.{leads_to, state_of}

-- An action that is taken stands behind the taken ones.
abbrev pub TakenMore : Type 0
TakenMore = (i : Instance) (a : Action) (s : ℕ) → i.taken < length i.actions → taken_of (with_action i a s) ≡ taken_of i ++ (a ∷ [])

-- An action that leads somewhere leaves the workflow in a state that it has.
abbrev pub StepStaysPlaced : Type 0
StepStaysPlaced =
    (c : Configuration) (i : Instance) (x : Action) (a : ℕ) → So (is_placed c i) → So (is_somewhere (leads_to i a))
    → So (is_placed c (with_action i x (state_of (leads_to i a))))

-- A letter that goes with the mark is one of the three.
abbrev pub LetteredIsLetter : Type 0
LetteredIsLetter = (i : Instance) → So (is_lettered i) → So (is_letter i.status)
