-- Reading a policy (document 01: 5, then 1 to 4).
use Rattle.std.specs.Prelude.{ℕ, Bool, true, false, cond, not, ◌&&◌, List, [], ◌∷◌, length, ◌==◌, nat_le, Result, Ok, Err}
use Rattle.std.proofs.Math.Option.{Option, some, none}
use Rattle.soda.specs.Lists.{all}
use Rattle.soda.specs.Terms.{Term, unit, well_formed, marks}
use Rattle.policy.specs.Codes.{ACCEPTED, WORD_COUNT, WORD, TERM, UNIT, COUNTS, Code, Plain}
use Rattle.policy.specs.Refusals.{Refusals, ◌gives◌, code}
use Rattle.policy.specs.Words.{word_ok, decode}
use Rattle.policy.specs.Faults.{code_at, code_number}
use Rattle.policy.specs.Answers.{code_of}
use Rattle.policy.specs.declared.Policy.{Policy}
use Rattle.policy.specs.declared.refusal.Refusal.{Refusal}

-- users and roles are each 1 to 16
abbrev pub count_ok : ℕ → Bool
count_ok n = nat_le 1 n && nat_le n 16

-- a policy is 1 to 31 words
abbrev pub length_ok : ℕ → Bool
length_ok n = nat_le 1 n && nat_le n 31

-- none of 5, 1 and 2 applies
abbrev pub layout_ok : ℕ → ℕ → List ℕ → Bool
layout_ok users roles ws = (count_ok users && count_ok roles) && (length_ok (length ws) && all (word_ok users roles) ws)

abbrev pub is_term : Option Term → Bool
is_term none = false
is_term (some φ) = true

-- every not and plus stands over a unit term (asked only where there is a term)
abbrev pub is_formed : Option Term → Bool
is_formed none = true
is_formed (some φ) = well_formed φ

-- 01's order: 5, 1, 2, 3, 4
abbrev pub refusals : ℕ → ℕ → List ℕ → Refusals
refusals users roles ws =
    (not (count_ok users && count_ok roles) gives COUNTS)
    ∷ (not (length_ok (length ws)) gives WORD_COUNT)
    ∷ (not (all (word_ok users roles) ws) gives WORD)
    ∷ (not (is_term (decode ws)) gives TERM)
    ∷ (not (is_formed (decode ws)) gives UNIT)
    ∷ []

-- the mask of the words that begin unit terms
abbrev pub units_of : Option Term → ℕ
units_of none = 0
units_of (some φ) = marks unit φ

-- the answer: the word count and that mask, or a code with nothing else
pub data PolicyRead : Type 0 where
  Accepted : ℕ → ℕ → PolicyRead
  Refused : Code → PolicyRead

abbrev pub answer : ℕ → ℕ → List ℕ → ℕ → PolicyRead
answer users roles ws k = cond (k == ACCEPTED) (Accepted (length ws) (units_of (decode ws))) (Refused (code_at users roles ws k))

unfoldable pub read_policy : ℕ → ℕ → List ℕ → PolicyRead
read_policy users roles ws = answer users roles ws (code (refusals users roles ws))

-- the code of an answer, and its number
abbrev pub code_read : PolicyRead → Code
code_read (Accepted n units) = Plain ACCEPTED
code_read (Refused c) = c

abbrev pub number_of : PolicyRead → ℕ
number_of a = code_number (code_read a)

-- what `read` of src answers
abbrev pub as_read : Result Policy Refusal → PolicyRead
as_read (Ok p) = Accepted p.words p.units
as_read (Err r) = Refused (code_of r)
