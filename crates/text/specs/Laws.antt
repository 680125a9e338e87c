-- What is proved of texts (document 02, E7): reading and writing are inverse. Statements only.
use Rattle.std.specs.Prelude.{◌≡◌, ◌≢◌, ◌↔◌, ◌⊎◌, List, ◌++◌, ℕ, zero, suc, ◌-◌, ◌^◌, ◌≤◌, ◌<◌, length, take, drop}
use Rattle.std.proofs.Math.Bool.{So}
use Rattle.std.proofs.Math.Option.{some}
use Rattle.soda.specs.Terms.{Term, set, ◌⊗◌, size}
use Rattle.soda.specs.Words.{encode, declared}
use Rattle.policy.specs.Codes.{ACCEPTED, TERM, OPENING, TEXT, OUTPUT}
use Rattle.policy.specs.Refusals.{code}
use Rattle.policy.specs.Reading.{read_policy}
use Rattle.policy.specs.Accepted.{IsPolicy}
use Rattle.policy.specs.Codes.{Code}
use Rattle.policy.specs.Reading as policy
use Rattle.text.specs.Texts.{opening, text, policy_text}
use Rattle.text.specs.Grammar.{parse}
use Rattle.text.specs.Reading.{Written, Refused, word_refusals, read_code, read_answer, read_out}
use Rattle.text.specs.Writing.{write_code, write_answer, write_out}

-- ── texts and terms ──
-- A term has a text of its own where its numbers are at most 15 and no set is empty.
abbrev pub Named : Term → Type 0
Named φ = So (declared 16 16 φ)

-- What is accepted is the inverse of `text` ..
abbrev pub ParseIsText : Type 0
ParseIsText = (t : List ℕ) (φ : Term) → (parse t ≡ some φ) ↔ ((t ≡ text φ) × Named φ)

-- .. so no two such terms have the same text.
abbrev pub TextIsOne : Type 0
TextIsOne = (φ ψ : Term) → Named φ → Named ψ → text φ ≡ text ψ → φ ≡ ψ

-- ── lengths ──
-- The text of an accepted policy has at most 767 bytes, and so never passes 1,024 ..
abbrev pub longest : ℕ
longest = 767

abbrev pub TextFits : Type 0
TextFits = (users roles : ℕ) (ws : List ℕ) (φ : Term) → IsPolicy users roles ws φ → length (policy_text φ) ≤ longest

-- .. and one has exactly so many: 16 sets of all 16 users, apart.
abbrev pub widest : ℕ → Term
widest zero = set (2 ^ 16 - 1)
widest (suc k) = set (2 ^ 16 - 1) ⊗ widest k

abbrev pub LongestIsReached : Type 0
LongestIsReached = IsPolicy 16 16 (encode (widest 15)) (widest 15) × (length (policy_text (widest 15)) ≡ longest)

-- ── the calls ──
-- A text is read exactly when it is that of an accepted policy whose words fit the output; the answer counts them.
abbrev pub ReadIsText : Type 0
ReadIsText =
    (users roles : ℕ) (t : List ℕ) (n k : ℕ)
    → (read_answer users roles t n ≡ Written k)
    ↔ ((φ : Term) × IsPolicy users roles (encode φ) φ × (t ≡ policy_text φ) × (k ≡ size φ) × (size φ ≤ n))

-- A text is written exactly for an accepted policy whose text fits the output; the answer counts its bytes.
abbrev pub WriteIsText : Type 0
WriteIsText =
    (users roles : ℕ) (ws : List ℕ) (n k : ℕ)
    → (write_answer users roles ws n ≡ Written k)
    ↔ ((φ : Term) × IsPolicy users roles ws φ × (k ≡ length (policy_text φ)) × (length (policy_text φ) ≤ n))

-- 13 comes last of all: it is given exactly for an accepted policy for which the output is too short.
abbrev pub ReadThirteenIsLast : Type 0
ReadThirteenIsLast =
    (users roles : ℕ) (t : List ℕ) (n : ℕ)
    → (read_code users roles t n ≡ OUTPUT) ↔ ((φ : Term) × IsPolicy users roles (encode φ) φ × (t ≡ policy_text φ) × (n < size φ))

abbrev pub WriteThirteenIsLast : Type 0
WriteThirteenIsLast =
    (users roles : ℕ) (ws : List ℕ) (n : ℕ)
    → (write_code users roles ws n ≡ OUTPUT) ↔ ((φ : Term) × IsPolicy users roles ws φ × (n < length (policy_text φ)))

-- 20 is given exactly where the opening bytes are missing ..
abbrev pub TwentyIsNoOpening : Type 0
TwentyIsNoOpening =
    (users roles : ℕ) (t : List ℕ) (n : ℕ) → (read_code users roles t n ≡ OPENING) ↔ ((rest : List ℕ) → t ≡ opening ++ rest → ⊥)

-- .. 21 exactly where they are there, and the text is too long or the rest is the text of no term ..
abbrev pub TwentyOneIsNoTerm : Type 0
TwentyOneIsNoTerm =
    (users roles : ℕ) (t : List ℕ) (n : ℕ)
    → (read_code users roles t n ≡ TEXT)
    ↔ ((rest : List ℕ) × (t ≡ opening ++ rest) × ((1024 < length t) ⊎ ((φ : Term) → rest ≡ text φ → Named φ → ⊥)))

-- .. and every other text gets the number of its words: an undeclared number, up to 15, is 2; 3 never occurs.
abbrev pub ReadIsWords : Type 0
ReadIsWords =
    (users roles : ℕ) (φ : Term) (n : ℕ) → Named φ → length (policy_text φ) ≤ 1024
    → read_code users roles (policy_text φ) n ≡ code (word_refusals users roles (encode φ) n)

abbrev pub NeverThree : Type 0
NeverThree = (users roles : ℕ) (t : List ℕ) (n : ℕ) → read_code users roles t n ≡ TERM → ⊥

-- ── refusals ──
-- A policy that is refused is told as reading its words tells it, number and place, before 13 is asked for ..
abbrev pub ReadTellsFault : Type 0
ReadTellsFault =
    (users roles : ℕ) (φ : Term) (c : Code) (out : List ℕ) → Named φ → length (policy_text φ) ≤ 1024 → read_policy users roles (encode φ) ≡ policy.Refused c
    → read_answer users roles (policy_text φ) (length out) ≡ Refused c

abbrev pub WriteTellsFault : Type 0
WriteTellsFault =
    (users roles : ℕ) (ws : List ℕ) (c : Code) (out : List ℕ) → read_policy users roles ws ≡ policy.Refused c
    → write_answer users roles ws (length out) ≡ Refused c

-- .. and a refusal leaves all of the output.
abbrev pub ReadRefusalKeeps : Type 0
ReadRefusalKeeps =
    (users roles : ℕ) (t out : List ℕ) → read_code users roles t (length out) ≢ ACCEPTED → read_out users roles t out ≡ out

abbrev pub WriteRefusalKeeps : Type 0
WriteRefusalKeeps =
    (users roles : ℕ) (ws out : List ℕ) → write_code users roles ws (length out) ≢ ACCEPTED → write_out users roles ws out ≡ out

-- ── there and back ──
-- "writing then reading, and reading then writing, change nothing": what was written is read as the same words ..
abbrev pub WriteThenRead : Type 0
WriteThenRead =
    (users roles : ℕ) (ws bytes words : List ℕ) (k : ℕ) → write_answer users roles ws (length bytes) ≡ Written k → length ws ≤ length words
    → (read_answer users roles (take k (write_out users roles ws bytes)) (length words) ≡ Written (length ws))
    × (read_out users roles (take k (write_out users roles ws bytes)) words ≡ ws ++ drop (length ws) words)

-- .. what was read is written as the same bytes ..
abbrev pub ReadThenWrite : Type 0
ReadThenWrite =
    (users roles : ℕ) (t words bytes : List ℕ) (k : ℕ) → read_answer users roles t (length words) ≡ Written k → length t ≤ length bytes
    → (write_answer users roles (take k (read_out users roles t words)) (length bytes) ≡ Written (length t))
    × (write_out users roles (take k (read_out users roles t words)) bytes ≡ t ++ drop (length t) bytes)

-- .. and 20 and 21 never follow a writing, whatever the counts and the output of the reading.
abbrev pub WrittenHasText : Type 0
WrittenHasText =
    (users roles : ℕ) (ws bytes : List ℕ) (k u r n : ℕ) → write_answer users roles ws (length bytes) ≡ Written k
    → read_code u r (take k (write_out users roles ws bytes)) n ≡ code (word_refusals u r ws n)

abbrev pub WordsHaveNeither : Type 0
WordsHaveNeither = (users roles : ℕ) (ws : List ℕ) (n : ℕ) → code (word_refusals users roles ws n) < OPENING
