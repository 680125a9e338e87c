-- The contracts of private functions: what stands at a text's beginning.
use Rattle.std.specs.Prelude.{◌≡◌, cond, List, [], ◌∷◌, ℕ, ◌+◌, ◌≤◌, ◌<◌, leb, eqb, length, take, drop, Option as Maybe, Some, None}
use Rattle.std.proofs.Math.Option.{Option, some, none}
use Rattle.soda.specs.Terms.{Op, Term, size}
use Rattle.soda.specs.Words.{op_word, encode}
use Rattle.text.specs.Puts.{Put}
use Rattle.text.specs.Texts.{ascii}
use Rattle.text.specs.Grammar.{Read, upon, behind, keyword, role_in, set_in, over, pair, term_in}
use Rattle.text.specs.Grammar as Grammar
use Rattle.parser.specs.declared.tokens.Head.{Head}
use Rattle.parser.specs.declared.tokens.Head.TheVariants.{Over, Pair}
use Rattle.parser.specs.declared.tokens.Token.{Token}
use Rattle.text.specs.declared.Span.{Span}

-- rest stands behind the first bytes of t, at least one
pub record Leaves (t : List ℕ) (bytes : ℕ) (rest : List ℕ) : Type 0 where
  pub some_bytes : 1 ≤ bytes
  pub within : bytes ≤ length t
  pub left : drop bytes t ≡ rest

-- What a function answers that reads something of a text: nothing; or how many bytes of it are taken, and what is said of the thing read.
abbrev pub Reads : {A R : Type 0} → (R → ℕ) → (R → A → Type 0) → Read A → List ℕ → Maybe R → Type 0
Reads bytes P none t None = Unit {0}
Reads bytes P none t (Some r) = ⊥
Reads bytes P (some a) t None = ⊥
Reads bytes P (some a) t (Some r) = Leaves t (bytes r) a.1 × P r a.0

abbrev pub TokenRead : {A V : Type 0} → (V → A → Type 0) → Read A → List ℕ → Maybe (Token V) → Type 0
TokenRead P o t r = Reads (λ k. k.bytes) (λ k. P k.value) o t r

-- bytes, and what they stand for
abbrev pub KeywordRead : {V : Type 0} → List ℕ → V → List ℕ → Maybe (Token V) → Type 0
KeywordRead bs v t r = TokenRead (λ x y. x ≡ y) (keyword bs v t) t r

abbrev pub IsNumber : ℕ → ℕ → Type 0
IsNumber v n = (v ≡ n) × (n < 16)

abbrev pub NumberRead : Read ℕ → List ℕ → Maybe (Token ℕ) → Type 0
NumberRead o t r = TokenRead IsNumber o t r

-- a term of one word
abbrev pub LeafWord : ℕ → Term → Type 0
LeafWord w φ = encode φ ≡ w ∷ []

abbrev pub LeafRead : Read Term → List ℕ → Maybe (Token ℕ) → Type 0
LeafRead o t r = TokenRead LeafWord o t r

-- a role or a set at a text's beginning
abbrev pub role_here : List ℕ → Read Term
role_here t = upon (behind (ascii "r") t) role_in

abbrev pub set_here : List ℕ → Read Term
set_here t = upon (behind (ascii "{") t) set_in

-- not or plus with its word; two sides have theirs later
abbrev pub HeadWord : Head → Grammar.Head → Type 0
HeadWord (Over w) (over f) = ((φ : Term) → encode (f φ) ≡ w ∷ encode φ) × ((φ : Term) → size (f φ) ≡ 1 + size φ)
HeadWord (Over w) pair = ⊥
HeadWord Pair (over f) = ⊥
HeadWord Pair pair = Unit {0}

abbrev pub HeadRead : Read Grammar.Head → List ℕ → Maybe (Token Head) → Type 0
HeadRead o t r = TokenRead HeadWord o t r

abbrev pub OperatorWord : ℕ → Op → Type 0
OperatorWord w op = w ≡ op_word op

abbrev pub OperatorRead : Read Op → List ℕ → Maybe (Token ℕ) → Type 0
OperatorRead o t r = TokenRead OperatorWord o t r

-- a term, if it has no more than n words
abbrev pub fitting : ℕ → Read Term → Read Term
fitting n o = upon o (λ φ. cond (leb (size φ.0) n) (some φ) none)

-- its words at the start of out
pub record Worded (out : List ℕ) (r : Span) (new : List ℕ) (φ : Term) : Type 0 where
  pub put : Put (encode φ) out r.words new
  pub room : size φ ≤ length out

abbrev pub TermRead : Read Term → List ℕ → List ℕ → Maybe Span → List ℕ → Type 0
TermRead o t out r new = Reads (λ s. s.bytes) (λ s. Worded out s new) (fitting (length out) o) t r

-- whatever the bound, if the text is no longer
abbrev pub Parsed : List ℕ → List ℕ → Maybe Span → List ℕ → Type 0
Parsed t out r new = (n : ℕ) → length t ≤ n → TermRead (term_in n t) t out r new

-- a span that stands for a term, which has a byte or more
abbrev pub as_term : Span → Maybe Span
as_term s = cond (eqb s.bytes 0) None (Some s)

-- how many words of the term that a text is stand at the start of new; none where it is none
abbrev pub WordsRead : Option Term → Maybe ℕ → List ℕ → Type 0
WordsRead none None new = Unit {0}
WordsRead none (Some n) new = ⊥
WordsRead (some φ) None new = ⊥
WordsRead (some φ) (Some n) new = (n ≤ length new) × (take n new ≡ encode φ)
