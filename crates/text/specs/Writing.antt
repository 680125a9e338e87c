-- The call that writes a text (document 02, E7): its number, its answer and its output.
use Rattle.std.specs.Prelude.{List, [], ◌∷◌, ◌++◌, ℕ, ltb, length}
use Rattle.std.proofs.Math.Option.{Option, some, none}
use Rattle.soda.specs.Terms.{Term}
use Rattle.policy.specs.Codes.{OUTPUT}
use Rattle.policy.specs.Refusals.{Refusals, ◌gives◌, code}
use Rattle.policy.specs.Words.{decode}
use Rattle.policy.specs.Reading.{refusals}
use Rattle.text.specs.Texts.{policy_text}
use Rattle.text.specs.Reading.{Converted, converted, laid}

-- the text of the term that the words are
abbrev pub text_in : Option Term → List ℕ
text_in none = []
text_in (some φ) = policy_text φ

unfoldable pub text_of : List ℕ → List ℕ
text_of ws = text_in (decode ws)

-- 5, 1 to 4, then 13: an output shorter than the text; n is the output's length
unfoldable pub write_refusals : ℕ → ℕ → List ℕ → ℕ → Refusals
write_refusals users roles ws n = refusals users roles ws ++ ((ltb n (length (text_of ws)) gives OUTPUT) ∷ [])

abbrev pub write_code : ℕ → ℕ → List ℕ → ℕ → ℕ
write_code users roles ws n = code (write_refusals users roles ws n)

abbrev pub write_answer : ℕ → ℕ → List ℕ → ℕ → Converted
write_answer users roles ws n = converted users roles ws (length (text_of ws)) (write_code users roles ws n)

unfoldable pub write_out : ℕ → ℕ → List ℕ → List ℕ → List ℕ
write_out users roles ws out = laid (write_code users roles ws (length out)) (text_of ws) out
