-- The two refusals in order; else the successor's state.
use Rattle.std.specs.Prelude.{Option, Some, None}
use Rattle.std.specs.Option.{ok_or}
use Rattle.std.proofs.Common.{◌≡◌, ℕ, [], ◌∷◌, false, not, refl, sym, ◌∙◌}
use Rattle.soda.specs.Workflows.{is_somewhere}
use Rattle.policy.specs.Codes.{NOT_AUTHORIZED, NO_TRANSITION}
use Rattle.policy.specs.Refusals.{◌gives◌, code}
use Rattle.policy.specs.declared.refusal.Refusal.TheVariants.{NoTransition}
use Rattle.instance.specs.Steps.{state_of, step_in, step_of, as_step}
use Rattle.instance.proofs.Instance.step.Goals as goal

goes : (s : Option ℕ) → as_step (ok_or s NoTransition) ≡ step_in (code ((false gives NOT_AUTHORIZED) ∷ (not (is_somewhere s) gives NO_TRANSITION) ∷ [])) (state_of s)
goes (Some n) = refl
goes None = refl

pub returns-then-not-authorizes : goal.returns-then-not-authorizes
unfolding step_of
returns-then-not-authorizes c = rw (sym c.authorizes.ensures ∙ c.if-not-authorizes.true)

pub returns : goal.returns
unfolding step_of
returns c = rw (sym c.authorizes.ensures ∙ c.if-not-authorizes.false, c.ok_or.ensures.value, sym c.successor.ensures) (goes c.successor.result)
