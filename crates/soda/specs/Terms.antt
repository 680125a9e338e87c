-- Terms of the separation-of-duty algebra (document 004, Definition 2; document 01, "People, roles and policy words").
use Rattle.std.specs.Prelude.{Bool, true, false, ◌&&◌, List, [], ◌∷◌, ◌++◌, map, ℕ, ◌+◌, get_or}
use Rattle.soda.specs.Bits.{number}

-- the operators with two sides
pub data Op : Type 0 where
  either both together apart : Op

infixl 40 ¬ᵗ◌
infixl 50 ◌⁺
-- `everyone` is 004's All. `set m` is the set of the users u whose bit u is set in m.
pub data Term : Type 0 where
  everyone : Term
  role set : ℕ → Term
  ¬ᵗ◌ ◌⁺ : Term → Term
  bin : Op → Term → Term → Term

-- 004's signs for the four operators
infixl 30 ◌⊔ᵗ◌
infixl 30 ◌⊓ᵗ◌
infixl 30 ◌⊙◌
infixl 30 ◌⊗◌
abbrev pub ◌⊔ᵗ◌ : Term → Term → Term
φ ⊔ᵗ ψ = bin either φ ψ

abbrev pub ◌⊓ᵗ◌ : Term → Term → Term
φ ⊓ᵗ ψ = bin both φ ψ

abbrev pub ◌⊙◌ : Term → Term → Term
φ ⊙ ψ = bin together φ ψ

abbrev pub ◌⊗◌ : Term → Term → Term
φ ⊗ ψ = bin apart φ ψ

-- whether two operators are one
abbrev pub same_op : Op → Op → Bool
same_op either either = true
same_op either both = false
same_op either together = false
same_op either apart = false
same_op both either = false
same_op both both = true
same_op both together = false
same_op both apart = false
same_op together either = false
same_op together both = false
same_op together together = true
same_op together apart = false
same_op apart either = false
same_op apart both = false
same_op apart together = false
same_op apart apart = true

-- A unit term has no plus, together or apart in it (01).
abbrev pub unit_op : Op → Bool
unit_op either = true
unit_op both = true
unit_op together = false
unit_op apart = false

abbrev pub unit : Term → Bool
unit everyone = true
unit (role r) = true
unit (set m) = true
unit (¬ᵗ φ) = unit φ
unit (φ ⁺) = false
unit (bin op φ ψ) = unit_op op && (unit φ && unit ψ)

-- Not and plus stand over unit terms only; either and both take any two terms (01).
abbrev pub well_formed : Term → Bool
well_formed everyone = true
well_formed (role r) = true
well_formed (set m) = true
well_formed (¬ᵗ φ) = unit φ && well_formed φ
well_formed (φ ⁺) = unit φ && well_formed φ
well_formed (bin op φ ψ) = well_formed φ && well_formed ψ

-- how many words a term is written in
abbrev pub size : Term → ℕ
size everyone = 1
size (role r) = 1
size (set m) = 1
size (¬ᵗ φ) = 1 + size φ
size (φ ⁺) = 1 + size φ
size (bin op φ ψ) = 1 + (size φ + size ψ)

-- the terms that begin at a term's words, in the order of the words: one for each word
abbrev pub subterms : Term → List Term
subterms everyone = everyone ∷ []
subterms (role r) = role r ∷ []
subterms (set m) = set m ∷ []
subterms (¬ᵗ φ) = (¬ᵗ φ) ∷ subterms φ
subterms (φ ⁺) = (φ ⁺) ∷ subterms φ
subterms (bin op φ ψ) = bin op φ ψ ∷ (subterms φ ++ subterms ψ)

-- the term that begins at word i
abbrev pub term_at : Term → ℕ → Term
term_at φ i = get_or (subterms φ) i everyone

-- a mask over a term's words: bit i is f of the term that begins at word i
abbrev pub marks : (Term → Bool) → Term → ℕ
marks f φ = number (map f (subterms φ))
