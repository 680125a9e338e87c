-- Rewriting a policy by a rule, on terms and on words: by exchanging and regrouping (`Turn`), by spreading (document 02, E9), or by all three.
use Rattle.std.specs.Prelude.{◌≡◌, Bool, true, false, List, ◌++◌, ℕ}
use Rattle.std.proofs.Math.Bool.{So}
use Rattle.soda.specs.Terms.{Op, either, both, together, apart, Term, ¬ᵗ◌, ◌⁺, bin}
use Rattle.soda.specs.Words.{fits, encode}
use Rattle.soda.specs.Steps.{Turn}

-- ── the rules ──
-- which term becomes which
abbrev pub Rule : Type 1
Rule = Term → Term → Type 0

-- 02, E9: "together, apart and both each spread over either, on both sides"
abbrev pub spreads : Op → Bool
spreads either = false
spreads both = true
spreads together = true
spreads apart = true

-- Spreading turns operator, A, either, B, C into either, operator, A, B, operator, A, C, and with A as the second side likewise; gathering
-- is the way back.
pub data Spread : Term → Term → Type 0 where
  spread_right : (op : Op) (a b c : Term) → So (spreads op) → Spread (bin op a (bin either b c)) (bin either (bin op a b) (bin op a c))
  spread_left : (op : Op) (a b c : Term) → So (spreads op) → Spread (bin op (bin either b c) a) (bin either (bin op b a) (bin op c a))
  gather_right : (op : Op) (a b c : Term) → So (spreads op) → Spread (bin either (bin op a b) (bin op a c)) (bin op a (bin either b c))
  gather_left : (op : Op) (a b c : Term) → So (spreads op) → Spread (bin either (bin op b a) (bin op c a)) (bin op (bin either b c) a)

-- any of them
pub data Rewrite : Term → Term → Type 0 where
  turned : {a b : Term} → Turn a b → Rewrite a b
  spread : {a b : Term} → Spread a b → Rewrite a b

-- ── on terms ──
-- the rule once, anywhere in a term
pub data RuleStep (R : Rule) : Term → Term → Type 0 where
  here : {a b : Term} → R a b → RuleStep R a b
  in_not : {a b : Term} → RuleStep R a b → RuleStep R (¬ᵗ a) (¬ᵗ b)
  in_plus : {a b : Term} → RuleStep R a b → RuleStep R (a ⁺) (b ⁺)
  in_left : {op : Op} {a b c : Term} → RuleStep R a b → RuleStep R (bin op a c) (bin op b c)
  in_right : {op : Op} {a b c : Term} → RuleStep R b c → RuleStep R (bin op a b) (bin op a c)

-- any number of steps, even none
pub data RuleSteps (R : Rule) : Term → Term → Type 0 where
  none : {a : Term} → RuleSteps R a a
  step : {a b c : Term} → RuleStep R a b → RuleSteps R b c → RuleSteps R a c

-- ── on words ──
-- one step from v to w: a whole term, whose words stand between `before` and `after`, is rewritten
pub record WordRuleStep (R : Rule) (v w : List ℕ) : Type 0 where
  pub before : List ℕ
  pub after : List ℕ
  pub old : Term
  pub new : Term
  pub rule : R old new
  pub layout : So (fits old)
  pub is_old : v ≡ before ++ (encode old ++ after)
  pub is_new : w ≡ before ++ (encode new ++ after)

pub data WordRuleSteps (R : Rule) : List ℕ → List ℕ → Type 0 where
  none : {v w : List ℕ} → v ≡ w → WordRuleSteps R v w
  step : {u v w : List ℕ} → WordRuleStep R u v → WordRuleSteps R v w → WordRuleSteps R u w
