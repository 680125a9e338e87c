-- What a step says: the user is authorized and the action leads to its state, or the first refusal that applies has its number.
use Rattle.std.specs.Prelude.{Option, Some, None}
use mathlib.Core.Path.{◌≡◌, refl, subst}
use mathlib.Core.Logic.{◌≢◌}
use mathlib.Core.Bool.{Bool, true, false, not}
use mathlib.Core.List.{[], ◌∷◌}
use Prim.Native.Nat.{ℕ}
use native.Mathlib.Omega.{arith}
use Rattle.soda.specs.Workflows.{is_somewhere}
use Rattle.policy.specs.Codes.{NOT_AUTHORIZED, NO_TRANSITION}
use Rattle.policy.specs.Refusals.{◌gives◌, code}
use Rattle.configuration.specs.declared.Configuration.{Configuration}
use Rattle.instance.specs.declared.Instance.{Instance}
use Rattle.instance.specs.Steps.{Step, To as StepTo, Refused, is_authorized, leads_to, step_refusals, state_of, step_in, step_of}

module _ (c : Configuration) (i : Instance) (u a : ℕ) where
  abbrev Says : Step → Type 0
  Says (StepTo s) = (is_authorized c i u a ≡ true) × (leads_to i a ≡ Some s)
  Says (Refused k) = (code (step_refusals c i u a) ≡ k) × (k ≢ 0)

  says : Says (step_of c i u a)
  unfolding step_of
  says = go (is_authorized c i u a) refl (leads_to i a) refl
    where
      go : (p : Bool) → is_authorized c i u a ≡ p → (s : Option ℕ) → leads_to i a ≡ s
          → Says (step_in (code ((not p gives NOT_AUTHORIZED) ∷ (not (is_somewhere s) gives NO_TRANSITION) ∷ [])) (state_of s))
      go true p (Some s) q = (p, q)
      go true p None q = (rw (p, q), λ e. absurd (omega arith))
      go false p s q = (rw p, λ e. absurd (omega arith))

  pub step_goes : (s : ℕ) → step_of c i u a ≡ StepTo s → (is_authorized c i u a ≡ true) × (leads_to i a ≡ Some s)
  step_goes s e = subst Says e says

  pub step_refused : (k : ℕ) → step_of c i u a ≡ Refused k → (code (step_refusals c i u a) ≡ k) × (k ≢ 0)
  step_refused k e = subst Says e says
