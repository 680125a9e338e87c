-- Laws of turns and steps: they can be undone and joined, they reach into a term, and what they keep.
use mathlib.Core.Path.{◌≡◌, ap, subst}
use mathlib.Core.Bool.{cond}
use mathlib.Core.List.{List, [], ◌∷◌, ◌++◌}
use Prim.Native.Nat.{ℕ, ◌+◌}
use native.Mathlib.Omega.{arith}
use lib.Dec.{eqb}
use Rattle.soda.specs.Lists.{count}
use Rattle.soda.specs.Terms.{Op, Term, ¬ᵗ◌, ◌⁺, bin, size}
use Rattle.soda.specs.Words.{op_word, encode, fits, declared}
use Rattle.soda.specs.Steps.{Turn, exchange, regroup, back, Step, here, in_not, in_plus, in_left, in_right, Steps}
use Rattle.soda.specs.Spreading.{Kept}
pub use Rattle.soda.proofs.Rewriting.{formed}
use Rattle.soda.proofs.Rewriting.{steps_by_turn, steps_are-rewrites, turns_keep, rewrites-formed, rewrites_keep_form}

-- ── steps as a relation ──
turn-back : {a b : Term} → Turn a b → Turn b a
turn-back (exchange op a b) = exchange op b a
turn-back (regroup op a b c) = back op a b c
turn-back (back op a b c) = regroup op a b c

step_back : {a b : Term} → Step a b → Step b a
step_back (here t) = here (turn-back t)
step_back (in_not s) = in_not (step_back s)
step_back (in_plus s) = in_plus (step_back s)
step_back (in_left s) = in_left (step_back s)
step_back (in_right s) = in_right (step_back s)

pub one-turn : {a b : Term} → Turn a b → Steps a b
one-turn t = Steps.step (here t) Steps.none

pub steps_trans : {a b c : Term} → Steps a b → Steps b c → Steps a c
steps_trans Steps.none q = q
steps_trans (Steps.step s p) q = Steps.step s (steps_trans p q)

pub steps_back : {a b : Term} → Steps a b → Steps b a
steps_back Steps.none = Steps.none
steps_back (Steps.step s p) = steps_trans (steps_back p) (Steps.step (step_back s) Steps.none)

pub steps_eq : {a b : Term} → a ≡ b → Steps a b
steps_eq {a} e = subst (λ (c : Term). Steps a c) e Steps.none

-- steps inside a term
steps_in : (f : Term → Term) → ((a b : Term) → Step a b → Step (f a) (f b)) → {a b : Term} → Steps a b → Steps (f a) (f b)
steps_in f inside Steps.none = Steps.none
steps_in f inside (Steps.step {a} {b} s p) = Steps.step (inside a b s) (steps_in f inside p)

pub steps-not : {a b : Term} → Steps a b → Steps (¬ᵗ a) (¬ᵗ b)
steps-not = steps_in ¬ᵗ◌ (λ a b s. in_not s)

pub steps-plus : {a b : Term} → Steps a b → Steps (a ⁺) (b ⁺)
steps-plus = steps_in ◌⁺ (λ a b s. in_plus s)

steps-left : (op : Op) {a b : Term} (c : Term) → Steps a b → Steps (bin op a c) (bin op b c)
steps-left op c = steps_in (λ x. bin op x c) (λ a b s. in_left s)

pub steps-right : (op : Op) (a : Term) {b c : Term} → Steps b c → Steps (bin op a b) (bin op a c)
steps-right op a = steps_in (bin op a) (λ b c s. in_right s)

pub steps-both : (op : Op) {a b c d : Term} → Steps a b → Steps c d → Steps (bin op a c) (bin op b d)
steps-both op {b = b} {c = c} p q = steps_trans (steps-left op c p) (steps-right op b q)

-- ── what steps keep ──
-- A function that exchanging and regrouping keep, and that goes by its values at the sides, has one value throughout. The
-- second side is reached by exchanging.
module _ {B : Type 0} (f : Term → B)
    (exchanged : (op : Op) (a b : Term) → f (bin op a b) ≡ f (bin op b a))
    (regrouped : (op : Op) (a b c : Term) → f (bin op (bin op a b) c) ≡ f (bin op a (bin op b c)))
    (under-not : (a b : Term) → f a ≡ f b → f (¬ᵗ a) ≡ f (¬ᵗ b))
    (under-plus : (a b : Term) → f a ≡ f b → f (a ⁺) ≡ f (b ⁺))
    (under-bin : (op : Op) (a b c : Term) → f a ≡ f b → f (bin op a c) ≡ f (bin op b c)) where
  pub steps_keep : {a b : Term} → Steps a b → f a ≡ f b
  steps_keep {a} {b} p = turns_keep f exchanged regrouped under-not under-plus under-bin ((steps_by_turn a b).0 p)

-- what spreading keeps too
kept : {a b : Term} → Steps a b → Kept a b
kept {a} {b} p = rewrites_keep_form a b (steps_are-rewrites p)

pub steps-formed : {a b : Term} → Steps a b → formed a ≡ formed b
steps-formed p = rewrites-formed (steps_are-rewrites p)

pub steps-fits : {a b : Term} → Steps a b → fits a ≡ fits b
steps-fits p = (kept p).same_fits

pub steps-declared : (users roles : ℕ) {a b : Term} → Steps a b → declared users roles a ≡ declared users roles b
steps-declared users roles p = (kept p).same_declared users roles

pub steps-size : {a b : Term} → Steps a b → size a ≡ size b
steps-size = steps_keep size (λ op a b. omega arith) (λ op a b c. omega arith) (λ a b e. omega arith) (λ a b e. omega arith) (λ op a b c e. omega arith)

-- how often a word occurs
count_append : (w : ℕ) (l m : List ℕ) → count w (l ++ m) ≡ count w l + count w m
count_append w [] m = omega arith
count_append w (x ∷ l) m = rw (count_append w l m) (omega arith)

count-bin : (w : ℕ) (op : Op) (a b : Term) → count w (encode (bin op a b)) ≡ cond (eqb w (op_word op)) 1 0 + (count w (encode a) + count w (encode b))
count-bin w op a b = ap (λ (n : ℕ). cond (eqb w (op_word op)) 1 0 + n) (count_append w (encode a) (encode b))

pub steps-count : (w : ℕ) {a b : Term} → Steps a b → count w (encode a) ≡ count w (encode b)
steps-count w = steps_keep (λ φ. count w (encode φ))
    (λ op a b. omega (arith, count-bin w op a b, count-bin w op b a))
    (λ op a b c. omega (arith, count-bin w op a b, count-bin w op b c, count-bin w op a (bin op b c), count-bin w op (bin op a b) c))
    (λ a b e. omega arith)
    (λ a b e. omega arith)
    (λ op a b c e. omega (arith, count-bin w op a c, count-bin w op b c))
