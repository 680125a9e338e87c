-- What is proved of exchanging, regrouping and the normal form (document 01, "Normal form" and "Equal forms"). Statements only.
use Rattle.std.specs.Prelude.{◌≡◌, ◌↔◌, Bool, List, [], ◌∷◌, ◌++◌, map, ℕ, ◌≤◌, ◌<◌, length}
use Rattle.std.proofs.Math.Bool.{So}
use Rattle.soda.specs.Lists.{count, ascending, merge}
use Rattle.soda.specs.Terms.{Op, Term, bin, unit, well_formed, size}
use Rattle.soda.specs.Words.{fits, declared, encode, term_le}
use Rattle.soda.specs.Tables.{judge}
use Rattle.soda.specs.Steps.{Steps, WordSteps}
use Rattle.soda.specs.Normal.{operands, chain, sorted, normal_form}

-- Two terms have the same normal form exactly when exchanges and regroupings lead from one to the other ..
abbrev pub SameFormIsSteps : Type 0
SameFormIsSteps = (φ ψ : Term) → So (fits φ) → (normal_form φ ≡ normal_form ψ) ↔ Steps φ ψ

-- .. and their words likewise.
abbrev pub SameWordsIsWordSteps : Type 0
SameWordsIsWordSteps =
    (φ ψ : Term) → So (fits φ) → So (fits ψ)
    → (encode (normal_form φ) ≡ encode (normal_form ψ)) ↔ WordSteps (encode φ) (encode ψ)

-- Words of two terms are related exactly when the terms are.
abbrev pub WordsRelated : Type 0
WordsRelated = (φ ψ : Term) → So (fits φ) → So (fits ψ) → WordSteps (encode φ) (encode ψ) ↔ Steps φ ψ

-- What the normal form keeps: unit, well formed, declared, in the layout, the size and how often each word occurs.
pub record Keeps (φ : Term) : Type 0 where
  pub same_unit : unit (normal_form φ) ≡ unit φ
  pub same_formed : well_formed (normal_form φ) ≡ well_formed φ
  pub same_declared : (users roles : ℕ) → declared users roles (normal_form φ) ≡ declared users roles φ
  pub same_fits : fits (normal_form φ) ≡ fits φ
  pub same_size : size (normal_form φ) ≡ size φ
  pub same_words : (w : ℕ) → count w (encode (normal_form φ)) ≡ count w (encode φ)

abbrev pub NormalKeeps : Type 0
NormalKeeps = (φ : Term) → Keeps φ

-- It is its own normal form.
abbrev pub NormalIsNormal : Type 0
NormalIsNormal = (φ : Term) → So (fits φ) → normal_form (normal_form φ) ≡ normal_form φ

-- 01's rule: each operand in normal form, sorted, the chain leaning right.
abbrev pub NormalIsChain : Type 0
NormalIsChain =
    (op : Op) (φ ψ : Term) → So (fits (bin op φ ψ))
    → normal_form (bin op φ ψ) ≡ chain op (sorted (map normal_form (operands op (bin op φ ψ))))

-- Its operands ascend by their words.
abbrev pub OperandsAscend : Type 0
OperandsAscend = (op : Op) (φ : Term) → So (ascending term_le (operands op (normal_form φ)))

-- Induction along a chain: a term is one operand, or two terms under the operator.
abbrev pub ByOperands : Type 1
ByOperands =
    (op : Op) (P : Term → Type 0) → ((φ : Term) → operands op φ ≡ φ ∷ [] → P φ) → ((φ ψ : Term) → P φ → P ψ → P (bin op φ ψ))
    → (φ : Term) → P φ

-- A term has an operand. A chain with one more in front is the operator over that one and the chain.
abbrev pub OperandsSome : Type 0
OperandsSome = (op : Op) (φ : Term) → 0 < length (operands op φ)

abbrev pub ChainCons : Type 0
ChainCons = (op : Op) (φ : Term) (l : List Term) → 0 < length l → chain op (φ ∷ l) ≡ bin op φ (chain op l)

-- The operands of a normal form are those of both sides' normal forms, sorted; each side's ascend, so it is enough to merge them.
abbrev pub NormalOperands : Type 0
NormalOperands =
    (op : Op) (φ ψ : Term)
    → operands op (normal_form (bin op φ ψ)) ≡ sorted (operands op (normal_form φ) ++ operands op (normal_form ψ))

abbrev pub NormalIsMerge : Type 0
NormalIsMerge =
    (op : Op) (φ ψ : Term)
    → normal_form (bin op φ ψ) ≡ chain op (merge term_le (operands op (normal_form φ)) (operands op (normal_form ψ)))

-- Related terms are satisfied by the same lists of actions, and the same lists are possible.
abbrev pub StepsKeepJudgement : Type 0
StepsKeepJudgement = (φ ψ : Term) → Steps φ ψ → (e : Bool) → judge e φ ≡ judge e ψ

-- Words that begin with those of one term begin with those of no other, and the same words are left over.
abbrev pub WordsAreOneTerm : Type 0
WordsAreOneTerm =
    (φ ψ : Term) (p q : List ℕ) → So (fits φ) → So (fits ψ) → encode φ ++ p ≡ encode ψ ++ q → (φ ≡ ψ) × (p ≡ q)

-- Declared terms of at most 16 users and roles fit.
abbrev pub DeclaredFits : Type 0
DeclaredFits = (users roles : ℕ) (φ : Term) → users ≤ 16 → roles ≤ 16 → So (declared users roles φ) → So (fits φ)
