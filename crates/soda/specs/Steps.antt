-- Exchanging and regrouping (document 01, "Equal forms"), on terms and on words.
use Rattle.std.specs.Prelude.{◌≡◌, List, ◌++◌, ℕ}
use Rattle.std.proofs.Math.Bool.{So}
use Rattle.soda.specs.Terms.{Op, Term, ¬ᵗ◌, ◌⁺, bin}
use Rattle.soda.specs.Words.{fits, encode}

-- Exchanging turns operator, A, B into operator, B, A; regrouping turns operator, operator, A, B, C into operator, A, operator,
-- B, C or back, one operator throughout.
pub data Turn : Term → Term → Type 0 where
  exchange : (op : Op) (a b : Term) → Turn (bin op a b) (bin op b a)
  regroup : (op : Op) (a b c : Term) → Turn (bin op (bin op a b) c) (bin op a (bin op b c))
  back : (op : Op) (a b c : Term) → Turn (bin op a (bin op b c)) (bin op (bin op a b) c)

-- one turn, anywhere in a term
pub data Step : Term → Term → Type 0 where
  here : {a b : Term} → Turn a b → Step a b
  in_not : {a b : Term} → Step a b → Step (¬ᵗ a) (¬ᵗ b)
  in_plus : {a b : Term} → Step a b → Step (a ⁺) (b ⁺)
  in_left : {op : Op} {a b c : Term} → Step a b → Step (bin op a c) (bin op b c)
  in_right : {op : Op} {a b c : Term} → Step b c → Step (bin op a b) (bin op a c)

-- any number of steps, even none
pub data Steps : Term → Term → Type 0 where
  none : {a : Term} → Steps a a
  step : {a b c : Term} → Step a b → Steps b c → Steps a c

-- one turn on words, from v to w: a whole term, whose words stand between `before` and `after`, is turned
pub record WordStep (v w : List ℕ) : Type 0 where
  pub before : List ℕ
  pub after : List ℕ
  pub old : Term
  pub new : Term
  pub turn : Turn old new
  pub layout : So (fits old)
  pub is_old : v ≡ before ++ (encode old ++ after)
  pub is_new : w ≡ before ++ (encode new ++ after)

pub data WordSteps : List ℕ → List ℕ → Type 0 where
  none : {v w : List ℕ} → v ≡ w → WordSteps v w
  step : {u v w : List ℕ} → WordStep u v → WordSteps v w → WordSteps u w
