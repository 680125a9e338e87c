-- The words of a term (document 01, "People, roles and policy words") and their order ("Normal form").
use Rattle.std.specs.Prelude.{Bool, true, false, not, ◌&&◌, ◌||◌, List, [], ◌∷◌, ◌++◌, ℕ, ◌+◌, ◌*◌, ◌^◌, ltb, eqb}
use Rattle.soda.specs.Terms.{Op, either, both, together, apart, Term, everyone, role, set, ¬ᵗ◌, ◌⁺, bin}

-- the kind sits in bits 24 to 31, the operand in bits 0 to 15, and bits 16 to 23 are zero
abbrev pub word : ℕ → ℕ → ℕ
word kind operand = kind * 2 ^ 24 + operand

-- 01's table of kinds
abbrev pub op_kind : Op → ℕ
op_kind either = 6
op_kind both = 7
op_kind together = 8
op_kind apart = 9

abbrev pub op_word : Op → ℕ
op_word op = word (op_kind op) 0

-- prefix order: a word, then its sides
abbrev pub encode : Term → List ℕ
encode everyone = word 1 0 ∷ []
encode (role r) = word 2 r ∷ []
encode (set m) = word 3 m ∷ []
encode (¬ᵗ φ) = word 4 0 ∷ encode φ
encode (φ ⁺) = word 5 0 ∷ encode φ
encode (bin op φ ψ) = op_word op ∷ (encode φ ++ encode ψ)

-- one test of every role number and one of every set
abbrev pub leaves : (ℕ → Bool) → (ℕ → Bool) → Term → Bool
leaves f g everyone = true
leaves f g (role r) = f r
leaves f g (set m) = g m
leaves f g (¬ᵗ φ) = leaves f g φ
leaves f g (φ ⁺) = leaves f g φ
leaves f g (bin op φ ψ) = leaves f g φ && leaves f g ψ

-- every operand has its 16 bits
abbrev pub fits : Term → Bool
fits φ = leaves (λ r. ltb r (2 ^ 16)) (λ m. ltb m (2 ^ 16)) φ

-- every role and user named is declared, and no set is empty (01, number 2)
abbrev pub declared : ℕ → ℕ → Term → Bool
declared users roles φ = leaves (λ r. ltb r roles) (λ m. not (eqb m 0) && ltb m (2 ^ users)) φ

-- words as numbers, the first difference deciding; a list comes before those that it begins
abbrev pub words_le : List ℕ → List ℕ → Bool
words_le [] v = true
words_le (a ∷ u) [] = false
words_le (a ∷ u) (b ∷ v) = ltb a b || (eqb a b && words_le u v)

-- terms by their words
abbrev pub term_le : Term → Term → Bool
term_le φ ψ = words_le (encode φ) (encode ψ)
