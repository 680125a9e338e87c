-- What the functions under the normal form call answer: the word count of a term, two chains merged, a term's normal form written.
use Rattle.std.specs.Prelude.{◌≡◌, List, [], ◌∷◌, ◌++◌, ℕ, zero, suc, ◌+◌, ◌≤◌, ◌<◌, eqb, length, get_or, take, drop}
use Rattle.std.proofs.Math.Bool.{So}
use mir.Val.{bool_byte}
use Rattle.soda.specs.Lists.{merge}
use Rattle.soda.specs.Terms.{Term, size}
use Rattle.soda.specs.Words.{encode, fits, term_le}
use Rattle.soda.specs.Normal.{normal_form}
use Rattle.policy.specs.Words.{kind, sides}

-- how many words the next n terms have
abbrev pub span : ℕ → List ℕ → ℕ
span n [] = 0
span zero (w ∷ ws) = 0
span (suc n) (w ∷ ws) = 1 + span (n + sides (kind w)) ws

-- 1 where the words begin with the operator's word w
abbrev pub lead : ℕ → List ℕ → ℕ
lead w ws = bool_byte (eqb (get_or ws 0 0) w)

-- the first operand of a chain of the operator whose word is w
abbrev pub operand_of : ℕ → List ℕ → List ℕ
operand_of w ws = take (span 1 (drop (lead w ws) ws)) (drop (lead w ws) ws)

-- a term that does not begin with the operator's word w
pub record Operand (w : ℕ) (φ : Term) : Type 0 where
  pub other : get_or (encode φ) 0 0 ≡ w → ⊥
  pub fit : So (fits φ)

-- the words are a chain of that operator, which leans right, with these operands, and then rest
pub data Chain (w : ℕ) : List ℕ → List Term → List ℕ → Type 0 where
  last : {φ : Term} {rest : List ℕ} → Operand w φ → Chain w (encode φ ++ rest) (φ ∷ []) rest
  more : {φ : Term} {l : List Term} {ws rest : List ℕ} → Operand w φ → Chain w ws l rest → Chain w (w ∷ (encode φ ++ ws)) (φ ∷ l) rest

-- two such chains, neither without words: a, and one in out behind a gap of one word more than a
pub record Merging (w : ℕ) (a out : List ℕ) : Type 0 where
  pub left : List Term
  pub right : List Term
  pub rest : List ℕ
  pub ahead : Chain w a left []
  pub behind : Chain w (drop (1 + length a) out) right rest
  pub some : 0 < length a
  pub gap : 1 + length a < length out

-- both as one chain
abbrev pub Merged : ℕ → List ℕ → List ℕ → List ℕ → Type 0
Merged w a out new = (m : Merging w a out) → Chain w new (merge term_le m.left m.right) m.rest

-- the words begin with those of a term; they are at most 31, and n words are room for as many
pub record Spelt (ws : List ℕ) (n : ℕ) : Type 0 where
  pub term : Term
  pub rest : List ℕ
  pub words : ws ≡ encode term ++ rest
  pub fit : So (fits term)
  pub some : 0 < length ws
  pub short : length ws ≤ 31
  pub room : length ws ≤ n

-- the term's word count, and its normal form at the start of out
abbrev pub Written : List ℕ → List ℕ → ℕ → List ℕ → Type 0
Written ws out r new =
    (s : Spelt ws (length out)) → (r ≡ size s.term) × (new ≡ encode (normal_form s.term) ++ drop (size s.term) out)
