-- Laws of rewriting by a rule: exchanging and regrouping are one of the rules, steps by a rule are steps by a wider one, and what steps keep.
use mathlib.Core.Path.{◌≡◌, refl, sym, ◌∙◌}
use mathlib.Core.Bool.{Bool, true, false, not, ◌&&◌, So, and_comm, and_assoc}
use Prim.Native.Nat.{ℕ, ◌^◌}
use lib.Dec.{eqb, ltb}
use Rattle.soda.specs.Terms.{Op, either, Term, ¬ᵗ◌, ◌⁺, bin, unit_op, unit, well_formed}
use Rattle.soda.specs.Words.{leaves}
use Rattle.soda.specs.Steps.{Turn, exchange, regroup, back, Step, Steps}
use Rattle.soda.specs.Rewriting.{Rule, spreads, spread_right, spread_left, gather_right, gather_left, Rewrite, turned, spread, RuleStep, RuleSteps}
use Rattle.soda.specs.Spreading.{StepsByTurn, RewriteKeeps}

-- ── exchanging and regrouping are one of the rules ──
step_to_rule : {a b : Term} → Step a b → RuleStep Turn a b
step_to_rule (Step.here t) = RuleStep.here t
step_to_rule (Step.in_not s) = RuleStep.in_not (step_to_rule s)
step_to_rule (Step.in_plus s) = RuleStep.in_plus (step_to_rule s)
step_to_rule (Step.in_left s) = RuleStep.in_left (step_to_rule s)
step_to_rule (Step.in_right s) = RuleStep.in_right (step_to_rule s)

step_of_rule : {a b : Term} → RuleStep Turn a b → Step a b
step_of_rule (RuleStep.here t) = Step.here t
step_of_rule (RuleStep.in_not s) = Step.in_not (step_of_rule s)
step_of_rule (RuleStep.in_plus s) = Step.in_plus (step_of_rule s)
step_of_rule (RuleStep.in_left s) = Step.in_left (step_of_rule s)
step_of_rule (RuleStep.in_right s) = Step.in_right (step_of_rule s)

steps_to_rule : {a b : Term} → Steps a b → RuleSteps Turn a b
steps_to_rule Steps.none = RuleSteps.none
steps_to_rule (Steps.step s p) = RuleSteps.step (step_to_rule s) (steps_to_rule p)

steps_of_rule : {a b : Term} → RuleSteps Turn a b → Steps a b
steps_of_rule RuleSteps.none = Steps.none
steps_of_rule (RuleSteps.step s p) = Steps.step (step_of_rule s) (steps_of_rule p)

pub steps_by_turn : StepsByTurn
steps_by_turn φ ψ = (steps_to_rule, steps_of_rule)

-- ── steps by a rule are steps by a wider one ──
step_by : {R S : Rule} → ((a b : Term) → R a b → S a b) → {a b : Term} → RuleStep R a b → RuleStep S a b
step_by wider (RuleStep.here {a} {b} r) = RuleStep.here (wider a b r)
step_by wider (RuleStep.in_not s) = RuleStep.in_not (step_by wider s)
step_by wider (RuleStep.in_plus s) = RuleStep.in_plus (step_by wider s)
step_by wider (RuleStep.in_left s) = RuleStep.in_left (step_by wider s)
step_by wider (RuleStep.in_right s) = RuleStep.in_right (step_by wider s)

pub steps_by : {R S : Rule} → ((a b : Term) → R a b → S a b) → {a b : Term} → RuleSteps R a b → RuleSteps S a b
steps_by wider RuleSteps.none = RuleSteps.none
steps_by wider (RuleSteps.step s p) = RuleSteps.step (step_by wider s) (steps_by wider p)

pub turns_are-rewrites : {a b : Term} → RuleSteps Turn a b → RuleSteps Rewrite a b
turns_are-rewrites = steps_by (λ a b t. turned t)

pub steps_are-rewrites : {a b : Term} → Steps a b → RuleSteps Rewrite a b
steps_are-rewrites p = turns_are-rewrites (steps_to_rule p)

-- ── what steps keep ──
-- A function that exchanging keeps, and that goes by its values at the sides, has one value throughout steps by a rule that keeps it. The
-- second side is reached by exchanging.
module _ {B : Type 0} (f : Term → B)
    (exchanged : (op : Op) (a b : Term) → f (bin op a b) ≡ f (bin op b a))
    (regrouped : (op : Op) (a b c : Term) → f (bin op (bin op a b) c) ≡ f (bin op a (bin op b c)))
    (under-not : (a b : Term) → f a ≡ f b → f (¬ᵗ a) ≡ f (¬ᵗ b))
    (under-plus : (a b : Term) → f a ≡ f b → f (a ⁺) ≡ f (b ⁺))
    (under-bin : (op : Op) (a b c : Term) → f a ≡ f b → f (bin op a c) ≡ f (bin op b c)) where
  under_right : (op : Op) (a b c : Term) → f b ≡ f c → f (bin op a b) ≡ f (bin op a c)
  under_right op a b c e = exchanged op a b ∙ under-bin op b c a e ∙ exchanged op c a

  module _ {R : Rule} (kept : (a b : Term) → R a b → f a ≡ f b) where
    step_keeps : {a b : Term} → RuleStep R a b → f a ≡ f b
    step_keeps (RuleStep.here {a} {b} r) = kept a b r
    step_keeps (RuleStep.in_not {a} {b} s) = under-not a b (step_keeps s)
    step_keeps (RuleStep.in_plus {a} {b} s) = under-plus a b (step_keeps s)
    step_keeps (RuleStep.in_left {op} {a} {b} {c} s) = under-bin op a b c (step_keeps s)
    step_keeps (RuleStep.in_right {op} {a} {b} {c} s) = under_right op a b c (step_keeps s)

    all_keep : {a b : Term} → RuleSteps R a b → f a ≡ f b
    all_keep RuleSteps.none = refl
    all_keep (RuleSteps.step s p) = step_keeps s ∙ all_keep p

  turn_keeps : {a b : Term} → Turn a b → f a ≡ f b
  turn_keeps (exchange op a b) = exchanged op a b
  turn_keeps (regroup op a b c) = regrouped op a b c
  turn_keeps (back op a b c) = sym (regrouped op a b c)

  pub turns_keep : {a b : Term} → RuleSteps Turn a b → f a ≡ f b
  turns_keep = all_keep (λ a b. turn_keeps)

  -- spread on the right it keeps its value, so it does on the left
  module _ (spread-kept : (op : Op) (a b c : Term) → So (spreads op) → f (bin op a (bin either b c)) ≡ f (bin either (bin op a b) (bin op a c))) where
    left-kept : (op : Op) (a b c : Term) → So (spreads op) → f (bin op (bin either b c) a) ≡ f (bin either (bin op b a) (bin op c a))
    left-kept op a b c h = exchanged op (bin either b c) a ∙ spread-kept op a b c h
        ∙ under-bin either (bin op a b) (bin op b a) (bin op a c) (exchanged op a b)
        ∙ under_right either (bin op b a) (bin op a c) (bin op c a) (exchanged op a c)

    rewrite_keeps : {a b : Term} → Rewrite a b → f a ≡ f b
    rewrite_keeps (turned t) = turn_keeps t
    rewrite_keeps (spread (spread_right op a b c h)) = spread-kept op a b c h
    rewrite_keeps (spread (spread_left op a b c h)) = left-kept op a b c h
    rewrite_keeps (spread (gather_right op a b c h)) = sym (spread-kept op a b c h)
    rewrite_keeps (spread (gather_left op a b c h)) = sym (left-kept op a b c h)

    pub rewrites_keep : {a b : Term} → RuleSteps Rewrite a b → f a ≡ f b
    rewrites_keep = all_keep (λ a b. rewrite_keeps)

-- unit and well formed together, as well formed asks for unit
and-regroup : (w a b c : Bool) → (w && ((w && (a && b)) && c)) ≡ (w && (a && (w && (b && c))))
and-regroup true a b c = and_assoc a b c
and-regroup false a b c = refl

and-spread : (w a b c : Bool) → (w && (a && (b && c))) ≡ ((w && (a && b)) && (w && (a && c)))
and-spread true true b c = refl
and-spread true false b c = refl
and-spread false a b c = refl

abbrev pub formed : Term → Bool × Bool
formed φ = (unit φ, well_formed φ)

pub rewrites-formed : {a b : Term} → RuleSteps Rewrite a b → formed a ≡ formed b
rewrites-formed = rewrites_keep formed
    (λ op a b i. (unit_op op && and_comm (unit a) (unit b) i, and_comm (well_formed a) (well_formed b) i))
    (λ op a b c i. (and-regroup (unit_op op) (unit a) (unit b) (unit c) i, and_assoc (well_formed a) (well_formed b) (well_formed c) i))
    (λ a b e i. ((e i).0, (e i).0 && (e i).1))
    (λ a b e i. (false, (e i).0 && (e i).1))
    (λ op a b c e i. (unit_op op && ((e i).0 && unit c), (e i).1 && well_formed c))
    (λ op a b c h i. (and-spread (unit_op op) (unit a) (unit b) (unit c) i, and-spread true (well_formed a) (well_formed b) (well_formed c) i))

rewrites-leaves : (f g : ℕ → Bool) {a b : Term} → RuleSteps Rewrite a b → leaves f g a ≡ leaves f g b
rewrites-leaves f g = rewrites_keep (leaves f g)
    (λ op a b. and_comm (leaves f g a) (leaves f g b))
    (λ op a b c. and_assoc (leaves f g a) (leaves f g b) (leaves f g c))
    (λ a b e. e)
    (λ a b e. e)
    (λ op a b c e i. e i && leaves f g c)
    (λ op a b c h. and-spread true (leaves f g a) (leaves f g b) (leaves f g c))

pub rewrites_keep_form : RewriteKeeps
rewrites_keep_form φ ψ p = record {
  same_unit = λ i. (rewrites-formed p i).0;
  same_formed = λ i. (rewrites-formed p i).1;
  same_declared = λ users roles. rewrites-leaves (λ r. ltb r roles) (λ m. not (eqb m 0) && ltb m (2 ^ users)) p;
  same_fits = rewrites-leaves (λ r. ltb r (2 ^ 16)) (λ m. ltb m (2 ^ 16)) p;
}
