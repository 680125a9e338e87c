-- What the monitor needs to know of a policy's words to judge sets of actions: which words go by which row of document 01's
-- table "Satisfied and possible", and where right sides begin.
use Rattle.std.specs.Prelude.{Bool, true, false, cond, List, [], ◌∷◌, ◌++◌, ℕ, ◌+◌, length, Option as Maybe, Some, None}
use Rattle.std.proofs.Math.Option.{Option, some, none}
use Rattle.soda.specs.Lists.{padded}
use Rattle.soda.specs.Terms.{Op, either, both, together, apart, Term, everyone, role, set, ¬ᵗ◌, ◌⁺, bin, same_op, unit, well_formed, size, marks}
use Rattle.policy.specs.Words.{decode}
use Rattle.policy.specs.Reading.{length_ok}
use Rattle.shape.specs.declared.Shape.{Shape}

-- row "plus"
abbrev pub is_plus : Term → Bool
is_plus everyone = false
is_plus (role r) = false
is_plus (set m) = false
is_plus (¬ᵗ φ) = false
is_plus (φ ⁺) = true
is_plus (bin op φ ψ) = false

-- the row of the operator op: its terms that are no unit terms
abbrev pub is_op : Op → Term → Bool
is_op op everyone = false
is_op op (role r) = false
is_op op (set m) = false
is_op op (¬ᵗ φ) = false
is_op op (φ ⁺) = false
is_op op (bin o φ ψ) = cond (unit (bin o φ ψ)) false (same_op op o)

-- for each word, the place where its right side begins; one past the word where it has none. The term's first word stands at i.
abbrev pub right_sides : ℕ → Term → List ℕ
right_sides i everyone = (1 + i) ∷ []
right_sides i (role r) = (1 + i) ∷ []
right_sides i (set m) = (1 + i) ∷ []
right_sides i (¬ᵗ φ) = (1 + i) ∷ right_sides (1 + i) φ
right_sides i (φ ⁺) = (1 + i) ∷ right_sides (1 + i) φ
right_sides i (bin op φ ψ) = (1 + i + size φ) ∷ (right_sides (1 + i) φ ++ right_sides (1 + i + size φ) ψ)

-- the shape of a term
abbrev pub term_shape : Term → Shape
term_shape φ = record {
  words = size φ;
  units = marks unit φ;
  plus = marks is_plus φ;
  either = marks (is_op either) φ;
  both = marks (is_op both) φ;
  together = marks (is_op together) φ;
  apart = marks (is_op apart) φ;
  right = padded 31 (right_sides 0 φ);
}

-- the shape of words that are a well-formed term of 1 to 31 words; of any others, none
abbrev pub shape_in : Option Term → Maybe Shape
shape_in none = None
shape_in (some φ) = cond (well_formed φ) (Some (term_shape φ)) None

unfoldable pub shape_of : List ℕ → Maybe Shape
shape_of ws = shape_in (cond (length_ok (length ws)) (decode ws) none)
