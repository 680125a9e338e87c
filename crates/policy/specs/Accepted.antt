-- What is proved of words and of reading: it is the inverse of `encode`. Statements only.
use Rattle.std.specs.Prelude.{◌≡◌, ℕ, ◌^◌, ◌<◌, ◌≤◌, false, ◌&&◌, ◌↔◌, List, length, slice_index}
use Rattle.std.proofs.Math.Bool.{So}
use Rattle.std.proofs.Math.Option.{some}
use Rattle.soda.specs.Lists.{all}
use Rattle.soda.specs.Terms.{Op, Term, unit, well_formed, size, marks}
use Rattle.soda.specs.Words.{word, op_kind, encode, fits, declared}
use Rattle.policy.specs.Codes.{TERM, UNIT}
use Rattle.policy.specs.Words.{kind, operand, sides, term_sides, word_ok, decode}
use Rattle.policy.specs.Reading.{count_ok, length_ok, read_policy, number_of}
use Rattle.policy.specs.Reading.{Accepted}

-- ── words ──
-- A word is its kind and its operand, which has 16 bits; an operator has two sides ..
abbrev pub KindOfWord : Type 0
KindOfWord = (k x : ℕ) → x < 2 ^ 16 → kind (word k x) ≡ k

abbrev pub OperandOfWord : Type 0
OperandOfWord = (k x : ℕ) → x < 2 ^ 16 → operand (word k x) ≡ x

abbrev pub OpSides : Type 0
OpSides = (op : Op) → sides (op_kind op) ≡ 2

-- .. and any term as many as the rule gives the kind of its first word.
abbrev pub SidesOfTerm : Type 0
SidesOfTerm = (φ : Term) → So (fits φ) → sides (kind (slice_index (encode φ) 0)) ≡ length (term_sides φ)

-- ── what the words are ──
-- The words are those of φ, whose operands have their 16 bits.
pub record WordsOf (φ : Term) (ws : List ℕ) : Type 0 where
  pub written : ws ≡ encode φ
  pub fit : So (fits φ)

-- Words in the layout, however many, decode to φ exactly when they are the words of φ, well formed or not.
abbrev pub DecodeIsEncode : Type 0
DecodeIsEncode =
    (users roles : ℕ) (ws : List ℕ) (φ : Term) → So (all (word_ok users roles) ws) → (decode ws ≡ some φ) ↔ WordsOf φ ws

-- ── 3 and 4 ──
-- none of 5, 1 and 2 applies
pub record InLayout (users roles : ℕ) (ws : List ℕ) : Type 0 where
  pub counts : So (count_ok users && count_ok roles)
  pub long : So (length_ok (length ws))
  pub layout : So (all (word_ok users roles) ws)

-- Of such words 3 is given exactly when they are the words of no term ..
abbrev pub ThreeIsNoTerm : Type 0
ThreeIsNoTerm =
    (users roles : ℕ) (ws : List ℕ)
    → (number_of (read_policy users roles ws) ≡ TERM) ↔ (InLayout users roles ws × ((φ : Term) → WordsOf φ ws → ⊥))

-- .. and 4 exactly when they are the words of a term that is not well formed. `Places` says which word either points at.
abbrev pub FourIsNotFormed : Type 0
FourIsNotFormed =
    (users roles : ℕ) (ws : List ℕ)
    → (number_of (read_policy users roles ws) ≡ UNIT) ↔ ((φ : Term) × InLayout users roles ws × WordsOf φ ws × (well_formed φ ≡ false))

-- ── accepted policies ──
-- The words are those of φ, a well-formed term with declared roles and users, no longer than a policy.
pub record IsPolicy (users roles : ℕ) (ws : List ℕ) (φ : Term) : Type 0 where
  pub counts : So (count_ok users && count_ok roles)
  pub written : ws ≡ encode φ
  pub formed : So (well_formed φ)
  pub is_declared : So (declared users roles φ)
  pub short : size φ ≤ 31

-- A policy is accepted, with its word count and unit words, exactly when its words are those of such a term ..
abbrev pub ReadIsEncode : Type 0
ReadIsEncode =
    (users roles : ℕ) (ws : List ℕ) (n m : ℕ)
    → (read_policy users roles ws ≡ Accepted n m) ↔ ((φ : Term) × IsPolicy users roles ws φ × (n ≡ size φ) × (m ≡ marks unit φ))

-- .. then none of 5, 1 and 2 applies, the words are those of the term ..
abbrev pub PolicyInLayout : Type 0
PolicyInLayout = (users roles : ℕ) (ws : List ℕ) (φ : Term) → IsPolicy users roles ws φ → InLayout users roles ws

abbrev pub PolicyIsWords : Type 0
PolicyIsWords = (users roles : ℕ) (ws : List ℕ) (φ : Term) → IsPolicy users roles ws φ → WordsOf φ ws

-- .. and it is the only such term, and the one that the words decode to.
abbrev pub TermIsOne : Type 0
TermIsOne = (users roles : ℕ) (ws : List ℕ) (φ ψ : Term) → IsPolicy users roles ws φ → IsPolicy users roles ws ψ → φ ≡ ψ

abbrev pub DecodeIsTerm : Type 0
DecodeIsTerm = (users roles : ℕ) (ws : List ℕ) (φ : Term) → IsPolicy users roles ws φ → decode ws ≡ some φ

-- ── the tests of counts and length ──
abbrev pub CountsInRange : Type 0
CountsInRange = (users roles : ℕ) → So (count_ok users && count_ok roles) → (users ≤ 16) × (roles ≤ 16)

abbrev pub LengthInRange : Type 0
LengthInRange = (n : ℕ) → So (length_ok n) → (1 ≤ n) × (n ≤ 31)
