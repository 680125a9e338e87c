-- The contracts of private functions: text put at an output's start.
use Rattle.std.specs.Prelude.{◌≡◌, List, ◌++◌, ℕ, ◌≤◌, ◌<◌, length}
use Rattle.std.proofs.Math.Bool.{So}
use Rattle.soda.specs.Terms.{Term, size}
use Rattle.soda.specs.Words.{encode, declared}
use Rattle.policy.specs.Words.{Kind, everyone_k, role_k, not_k, plus_k, op_k}
use Rattle.text.specs.Puts.{Put}
use Rattle.text.specs.Texts.{ascii, numeral, set_text, op_text, text, policy_text}
use Rattle.text.specs.declared.Span.{Span}

-- what stands before a first side, and between two, by the kind of the word
abbrev pub head_text : Kind → List ℕ
head_text not_k = ascii "not "
head_text plus_k = ascii "plus "
head_text _ = ascii "("

abbrev pub operator_text : Kind → List ℕ
operator_text (op_k op) = op_text op
operator_text _ = ascii " apart "

-- a term of one word; a role's number is at most 15
abbrev pub leaf_text : Kind → ℕ → List ℕ
leaf_text everyone_k x = ascii "all"
leaf_text role_k x = ascii "r" ++ numeral x
leaf_text _ x = set_text x

abbrev pub NamesLeaf : Kind → ℕ → Type 0
NamesLeaf k x = k ≡ role_k → x < 16

-- the words begin with those of a term, for whose text n bytes are room
pub record Spelt (ws : List ℕ) (n : ℕ) : Type 0 where
  pub term : Term
  pub rest : List ℕ
  pub words : ws ≡ encode term ++ rest
  pub fit : So (declared 16 16 term)
  pub room : length (text term) ≤ n

abbrev pub TermPut : List ℕ → List ℕ → Span → List ℕ → Type 0
TermPut ws out r new = (s : Spelt ws (length out)) → (r.words ≡ size s.term) × Put (text s.term) out r.bytes new

-- the same behind the opening bytes
pub record PolicySpelt (ws : List ℕ) (n : ℕ) : Type 0 where
  pub spelt : Spelt ws n
  pub room : length (policy_text spelt.term) ≤ n

abbrev pub PolicyPut : List ℕ → List ℕ → ℕ → List ℕ → Type 0
PolicyPut ws out r new = (s : PolicySpelt ws (length out)) → Put (policy_text s.spelt.term) out r new
