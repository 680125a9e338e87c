-- What is proved of lists, of digits, of terms and their words, of the table, of unassigned users, and of the actions of a trace. Statements only.
use Rattle.std.specs.Prelude.{◌≡◌, ◌↔◌, Bool, true, false, not, ◌&&◌, ◌||◌, List, [], ◌∷◌, ◌++◌, ℕ, ◌-◌, ◌^◌, ◌≤◌, ◌<◌, eqb, length, get_or, take, drop}
use Rattle.std.proofs.Math.Bool.{So}
use Rattle.soda.specs.Lists.{all, first_failing, from}
use Rattle.soda.specs.Bits.{bit, set_bit, clear_bit, number}
use Rattle.soda.specs.Terms.{Op, Term, ¬ᵗ◌, same_op, size, subterms, term_at, marks}
use Rattle.soda.specs.Words.{op_kind, encode, fits, words_le, term_le}
use Rattle.soda.specs.Roles.{UA, assigned, meets}
use Rattle.soda.specs.Tables.{acts, table, bit_table, met_bits}
use Rattle.soda.specs.Multisets.{Multiset, SatM}
use Rattle.soda.specs.Traces.{Trace, upd, executed}
use Rattle.soda.specs.declared.Action.{Action}

-- ── the first element that fails a test ──
-- Those before it pass, and it fails ..
abbrev pub FirstIsFirst : Type 1
FirstIsFirst =
    (A : Type 0) (f : A → Bool) (d : A) (l : List A) (p : ℕ)
    → p < length l → (first_failing f l ≡ p) ↔ (So (all f (take p l)) × (f (get_or l p d) ≡ false))

-- .. and where there is none, all pass.
abbrev pub NoneFails : Type 1
NoneFails = (A : Type 0) (f : A → Bool) (l : List A) → all f l ≡ eqb (first_failing f l) (length l)

-- ── digits, and the part of a list from a place on ──
-- A digit set or cleared: that digit alone changes.
abbrev pub BitSetBit : Type 0
BitSetBit = (i j n : ℕ) → bit j (set_bit i n) ≡ (eqb j i || bit j n)

abbrev pub BitClearBit : Type 0
BitClearBit = (i j n : ℕ) → bit j (clear_bit i n) ≡ (not (eqb j i) && bit j n)

-- The digits of a number are those that it was put together from, and it has no others.
abbrev pub BitNumber : Type 0
BitNumber = (l : List Bool) (i : ℕ) → bit i (number l) ≡ get_or l i false

abbrev pub NumberLt : Type 0
NumberLt = (l : List Bool) → number l < 2 ^ length l

abbrev pub FromDrop : Type 0
FromDrop = (k : ℕ) (l : List ℕ) → from k l ≡ drop k l

abbrev pub FromLength : Type 0
FromLength = (k : ℕ) (l : List ℕ) → length (from k l) ≡ length l - k

-- ── terms ──
-- A term has a word, and one term begins at each word; the one that begins at the first word is the term itself.
abbrev pub SizePos : Type 0
SizePos = (φ : Term) → 0 < size φ

abbrev pub SubtermsLength : Type 0
SubtermsLength = (φ : Term) → length (subterms φ) ≡ size φ

abbrev pub FirstTerm : Type 0
FirstTerm = (φ : Term) → term_at φ 0 ≡ φ

-- A mask over a term's words has bit i by the term that begins at word i, and no bit past the words.
abbrev pub BitMarks : Type 0
BitMarks = (f : Term → Bool) (φ : Term) (i : ℕ) → i < size φ → bit i (marks f φ) ≡ f (term_at φ i)

abbrev pub BitMarksPast : Type 0
BitMarksPast = (f : Term → Bool) (φ : Term) (i : ℕ) → size φ ≤ i → bit i (marks f φ) ≡ false

-- ── words ──
-- A term is written in as many words as its size.
abbrev pub EncodeLength : Type 0
EncodeLength = (φ : Term) → length (encode φ) ≡ size φ

-- The kinds of the four operators come behind all others, and each operator has its own.
abbrev pub OpHigh : Type 0
OpHigh = (op : Op) → 5 < op_kind op

abbrev pub SameKind : Type 0
SameKind = (op o : Op) → eqb (op_kind o) (op_kind op) ≡ same_op op o

-- The order of words is transitive, and two different terms compare alike whatever words follow theirs.
abbrev pub WordsTrans : Type 0
WordsTrans = (u v w : List ℕ) → So (words_le u v) → So (words_le v w) → So (words_le u w)

abbrev pub CompareInPlace : Type 0
CompareInPlace =
    (φ ψ : Term) (p q : List ℕ) → So (fits φ) → So (fits ψ) → (φ ≡ ψ → ⊥) → words_le (encode φ ++ p) (encode ψ ++ q) ≡ term_le φ ψ

-- ── the table ──
-- An action's user plays no part but for being the same as another's. So a user who acts nowhere else can be renamed: two users who
-- have not acted, and for whom the same is noted, are judged alike.
abbrev pub NewUserIsRenamed : Type 0
NewUserIsRenamed =
    (e : Bool) (φ : Term) (i : ℕ) (l : List Action) (u v met : ℕ)
    → acts (λ a. a.user) u l ≡ false → acts (λ a. a.user) v l ≡ false
    → bit_table (λ a. a.user) (λ a. a.met) e φ i (l ++ (record { user = u; met = met } ∷ []))
    ≡ bit_table (λ a. a.user) (λ a. a.met) e φ i (l ++ (record { user = v; met = met } ∷ []))

-- ── unassigned users: those who hold no role (document 02, E3: a leaver) ──
-- They meet no unit term, so that not twice is met as its inner term is ..
abbrev pub UnassignedMeetsNothing : Type 0
UnassignedMeetsNothing = (φ : Term) (u : ℕ) → meets φ u 0 ≡ false

abbrev pub NotTwice : Type 0
NotTwice = (φ : Term) (u h : ℕ) → meets (¬ᵗ (¬ᵗ φ)) u h ≡ meets φ u h

-- .. they occur in no multiset that satisfies a term by Definition 3 ..
abbrev pub WhoSatisfiesHoldsRole : Type 0
WhoSatisfiesHoldsRole = (ua : UA) (U : Multiset) (φ : Term) → SatM ua U φ → (u : ℕ) → 1 ≤ U u → (r : ℕ) × So (assigned ua u r)

-- .. and nothing is noted for them.
abbrev pub UnassignedNotesNothing : Type 0
UnassignedNotesNothing = (φ : Term) (u : ℕ) → met_bits φ u 0 ≡ 0

-- Where one action met nothing the actions are not possible, whatever is kept of an action.
abbrev pub UnmetIsImpossible : Type 1
UnmetIsImpossible =
    (A : Type 0) (user : A → ℕ) (met : Term → ℕ → A → Bool) (φ : Term) (i : ℕ) (s t : List A) (a : A)
    → ((ψ : Term) (k : ℕ) → met ψ k a ≡ false) → table user met true φ i (s ++ (a ∷ t)) ≡ false

-- ── traces ──
-- The actions of two traces in a row: those of the second with the roles that the first leaves.
abbrev pub ExecutedAppend : Type 0
ExecutedAppend = (s t : Trace) (ua : UA) → executed ua (s ++ t) ≡ executed ua s ++ executed (upd ua s) t
