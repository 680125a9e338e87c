-- The normal form of a term (document 01, "Normal form").
use Rattle.std.specs.Prelude.{cond, List, [], ◌∷◌, ◌++◌}
use Rattle.soda.specs.Lists.{sort}
use Rattle.soda.specs.Terms.{Op, Term, everyone, role, set, ¬ᵗ◌, ◌⁺, bin, same_op}
use Rattle.soda.specs.Words.{term_le}

-- a chain of one operator as one list of operands, none of which begins with that operator
abbrev pub operands : Op → Term → List Term
operands op everyone = everyone ∷ []
operands op (role r) = role r ∷ []
operands op (set m) = set m ∷ []
operands op (¬ᵗ φ) = (¬ᵗ φ) ∷ []
operands op (φ ⁺) = (φ ⁺) ∷ []
operands op (bin o φ ψ) = cond (same_op op o) (operands op φ ++ operands op ψ) (bin o φ ψ ∷ [])

-- The chain leaning right: operator, first, operator, second, .. , last. A chain has an operand, so the first clause is not used.
abbrev pub chain : Op → List Term → Term
chain op [] = everyone
chain op (φ ∷ []) = φ
chain op (φ ∷ ψ ∷ l) = bin op φ (chain op (ψ ∷ l))

-- ascending by their words
abbrev pub sorted : List Term → List Term
sorted l = sort term_le l

-- The operands of the two sides' normal forms are the chain's operands in normal form. The statement `NormalIsChain` of
-- EqualForms is 01's sentence.
abbrev pub normal_form : Term → Term
normal_form everyone = everyone
normal_form (role r) = role r
normal_form (set m) = set m
normal_form (¬ᵗ φ) = ¬ᵗ (normal_form φ)
normal_form (φ ⁺) = (normal_form φ) ⁺
normal_form (bin op φ ψ) = chain op (sorted (operands op (normal_form φ) ++ operands op (normal_form ψ)))
