-- The normal form call (document 01, "Normal form", "Numbers"): its number and its output.
use Rattle.std.specs.Prelude.{cond, List, [], ◌∷◌, ◌++◌, ℕ, ltb, eqb, length, drop}
use Rattle.std.proofs.Math.Option.{Option, some, none}
use Rattle.soda.specs.Terms.{Term}
use Rattle.soda.specs.Words.{encode}
use Rattle.soda.specs.Normal.{normal_form}
use Rattle.policy.specs.Codes.{ACCEPTED, OUTPUT}
use Rattle.policy.specs.Refusals.{Refusals, ◌gives◌, code}
use Rattle.policy.specs.Words.{decode}
use Rattle.policy.specs.Faults.{code_at}
use Rattle.policy.specs.Reading.{refusals}
use Rattle.policy.specs.Codes.{Code}

-- the words of a term's normal form
abbrev pub normal_in : Option Term → List ℕ
normal_in none = []
normal_in (some φ) = encode (normal_form φ)

unfoldable pub normal_words : List ℕ → List ℕ
normal_words ws = normal_in (decode ws)

-- 5, 1 to 4, 13: an output shorter than the policy; n is the output's length
unfoldable pub normal_refusals : ℕ → ℕ → List ℕ → ℕ → Refusals
normal_refusals users roles ws n = refusals users roles ws ++ ((ltb n (length ws) gives OUTPUT) ∷ [])

abbrev pub normal_code : ℕ → ℕ → List ℕ → ℕ → ℕ
normal_code users roles ws n = code (normal_refusals users roles ws n)

-- the answer: the number, with the place of a policy's fault
abbrev pub normal_answer : ℕ → ℕ → List ℕ → ℕ → Code
normal_answer users roles ws n = code_at users roles ws (normal_code users roles ws n)

-- the normal form at the output's start, the rest kept; a refusal changes nothing
unfoldable pub normal_out : ℕ → ℕ → List ℕ → List ℕ → List ℕ
normal_out users roles ws out = cond (eqb (normal_code users roles ws (length out)) ACCEPTED) (normal_words ws ++ drop (length ws) out) out
