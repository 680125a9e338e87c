-- Both readings of Definition 7 have the same traces: the table says of either which traces it has, and nothing follows done in them.
use mathlib.Core.Path.{◌≡◌, refl, sym, ◌∙◌, ap, subst}
use mathlib.Core.Bool.{Bool, true, false, So}
use mathlib.Core.List.{List, [], ◌∷◌}
use Rattle.soda.specs.Terms.{Term, everyone, role, set, ¬ᵗ◌, ◌⁺, bin}
use Rattle.soda.specs.Roles.{UA}
use Rattle.soda.specs.Tables.{judge}
use Rattle.soda.specs.Traces.{Trace, executed}
use Rattle.soda.specs.Processes.{Symbol, event, done, P, process, composed}
use Rattle.soda.specs.Accuracy.{Readings}
use Rattle.soda.proofs.Bools.{never}
use Rattle.soda.proofs.Tables.{judge-bin}
use Rattle.soda.proofs.Processes.{Has, ending, In, Out, compose_in, compose_out, accepts_in, accepts_out}
use Rattle.soda.proofs.Endings.{proper, Ends, compose_proper, process_proper}

module _ (e : Bool) (ua : UA) where
  composed_in : (φ : Term) → In e ua (composed φ ua) (judge e φ)
  unfolding process composed
  composed_in everyone = accepts_in e ua everyone
  composed_in (role r) = accepts_in e ua (role r)
  composed_in (set m) = accepts_in e ua (set m)
  composed_in (¬ᵗ φ) = accepts_in e ua (¬ᵗ φ)
  composed_in (φ ⁺) = accepts_in e ua (φ ⁺)
  composed_in (bin op φ ψ) = λ U t w h.
      compose_in e ua op (composed φ ua) (composed ψ ua) (judge e φ) (judge e ψ) (composed_in φ) (composed_in ψ) U t w (sym (judge-bin e op φ ψ (executed ua t)) ∙ h)

  composed_out : (φ : Term) → Out e ua (composed φ ua) (judge e φ)
  unfolding process composed
  composed_out everyone = accepts_out e ua everyone
  composed_out (role r) = accepts_out e ua (role r)
  composed_out (set m) = accepts_out e ua (set m)
  composed_out (¬ᵗ φ) = accepts_out e ua (¬ᵗ φ)
  composed_out (φ ⁺) = accepts_out e ua (φ ⁺)
  composed_out (bin op φ ψ) = λ U t h.
      let (k, w) = compose_out e ua op (composed φ ua) (composed ψ ua) (judge e φ) (judge e ψ) (composed_out φ) (composed_out ψ) U t h in
      (judge-bin e op φ ψ (executed ua t) ∙ k, w)

composed_proper : (φ : Term) (ua : UA) → Ends (composed φ ua)
unfolding process composed
composed_proper everyone ua = process_proper everyone ua
composed_proper (role r) ua = process_proper (role r) ua
composed_proper (set m) ua = process_proper (set m) ua
composed_proper (¬ᵗ φ) ua = process_proper (¬ᵗ φ) ua
composed_proper (φ ⁺) ua = process_proper (φ ⁺) ua
composed_proper (bin op φ ψ) ua = compose_proper op (composed φ ua) (composed ψ ua) (composed_proper φ ua) (composed_proper ψ ua)

-- symbols that nothing follows done in are a trace, with done behind it or not
record Whole (l : List Symbol) : Type 0 where
  column : Bool
  trace : Trace
  is_ending : ending column trace ≡ l

whole : (l : List Symbol) → So (proper l) → Whole l
unfolding ending
whole [] h = record { column = true; trace = []; is_ending = refl }
whole (event s ∷ l) h = let w = whole l h in record { column = w.column; trace = s ∷ w.trace; is_ending = ap (λ x. event s ∷ x) w.is_ending }
whole (done ∷ []) h = record { column = false; trace = []; is_ending = refl }
whole (done ∷ s ∷ l) h = never h

-- from one process to another, where each trace of the first is one of the second
transfer : (p q : P) (l : List Symbol) → So (proper l) → ((e : Bool) (t : Trace) → Has p (ending e t) → Has q (ending e t)) → Has p l → Has q l
transfer p q l h f x = let w = whole l h in
    subst (Has q) w.is_ending (f w.column w.trace (subst (Has p) (sym w.is_ending) x))

pub readings : Readings
readings φ ua U l = (
  λ x. transfer (process φ ua U) (composed φ ua U) l (process_proper φ ua U l x)
      (λ e t h. let (k, w) = accepts_out e ua φ U t h in composed_in e ua φ U t w k) x,
  λ x. transfer (composed φ ua U) (process φ ua U) l (composed_proper φ ua U l x)
      (λ e t h. let (k, w) = composed_out e ua φ U t h in accepts_in e ua φ U t w k) x,
)
