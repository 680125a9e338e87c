-- The call that reads a text (document 02, E7): its number, its answer and its output.
use Rattle.std.specs.Prelude.{not, ◌||◌, cond, List, [], ◌∷◌, ◌++◌, ℕ, ltb, eqb, length, drop, Result, Ok, Err}
use Rattle.std.proofs.Math.Option.{Option, some, none}
use Rattle.soda.specs.Terms.{Term}
use Rattle.soda.specs.Words.{encode}
use Rattle.policy.specs.Codes.{ACCEPTED, OPENING, TEXT, OUTPUT, Code}
use Rattle.policy.specs.Refusals.{Refusals, ◌gives◌, code}
use Rattle.policy.specs.Faults.{code_at}
use Rattle.policy.specs.Answers.{code_of}
use Rattle.policy.specs.Reading.{refusals}
use Rattle.policy.specs.declared.refusal.Refusal.{Refusal}
use Rattle.text.specs.Texts.{opening}
use Rattle.text.specs.Grammar.{upon, is_found, behind, parse}

-- a text has at most 1,024 bytes
abbrev pub limit : ℕ
limit = 1024

-- the term behind the opening bytes, and its words
unfoldable pub term_of : List ℕ → Option Term
term_of t = upon (behind opening t) parse

abbrev pub words_of : Option Term → List ℕ
words_of none = []
words_of (some φ) = encode φ

-- 5, 1 to 4, then 13: an output shorter than the words; n is the output's length
unfoldable pub word_refusals : ℕ → ℕ → List ℕ → ℕ → Refusals
word_refusals users roles ws n = refusals users roles ws ++ ((ltb n (length ws) gives OUTPUT) ∷ [])

-- "20 when the opening bytes are missing, 21 when the rest is not such a term or the text passes 1,024 bytes, in that order ahead of 5
-- and 1 to 4", which speak of the term's words
unfoldable pub read_refusals : ℕ → ℕ → List ℕ → ℕ → Refusals
read_refusals users roles t n =
    (not (is_found (behind opening t)) gives OPENING)
    ∷ ((ltb limit (length t) || not (is_found (term_of t))) gives TEXT)
    ∷ word_refusals users roles (words_of (term_of t)) n

abbrev pub read_code : ℕ → ℕ → List ℕ → ℕ → ℕ
read_code users roles t n = code (read_refusals users roles t n)

-- what a conversion answers: how many words or bytes it wrote, or a code
pub data Converted : Type 0 where
  Written : ℕ → Converted
  Refused : Code → Converted

-- what `read_text` and `write_text` of src answer
abbrev pub as_converted : Result ℕ Refusal → Converted
as_converted (Ok n) = Written n
as_converted (Err r) = Refused (code_of r)

-- so many words or bytes are written, or a number is given, with the place of a policy's fault among the words
abbrev pub converted : ℕ → ℕ → List ℕ → ℕ → ℕ → Converted
converted users roles ws count k = cond (eqb k ACCEPTED) (Written count) (Refused (code_at users roles ws k))

abbrev pub read_answer : ℕ → ℕ → List ℕ → ℕ → Converted
read_answer users roles t n = converted users roles (words_of (term_of t)) (length (words_of (term_of t))) (read_code users roles t n)

-- what is written stands at the output's start, and the rest is kept; a refusal changes nothing
abbrev pub laid : ℕ → List ℕ → List ℕ → List ℕ
laid k new out = cond (eqb k ACCEPTED) (new ++ drop (length new) out) out

unfoldable pub read_out : ℕ → ℕ → List ℕ → List ℕ → List ℕ
read_out users roles t out = laid (read_code users roles t (length out)) (words_of (term_of t)) out
