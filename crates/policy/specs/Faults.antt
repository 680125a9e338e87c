-- The place of a policy's fault (document 02, E2: point at the bad word), counted from 0, and the code of a call that reads a policy.
use Rattle.std.specs.Prelude.{ℕ, Bool, true, cond, ◌&&◌, List, length, ◌==◌, nat_le}
use Rattle.std.proofs.Math.Option.{Option, some, none}
use Rattle.soda.specs.Lists.{first_failing}
use Rattle.soda.specs.Terms.{Term, everyone, role, set, ¬ᵗ◌, ◌⁺, bin, unit, size, subterms}
use Rattle.policy.specs.Codes.{WORD_COUNT, WORD, TERM, UNIT, Code, Fault, Plain}
use Rattle.policy.specs.Words.{word_ok, first, decode}

-- ── places ──
-- of 3: the first word left over, behind the term that the words begin with; where they begin with none they run out: the word count
abbrev pub left_over : Option Term → ℕ → ℕ
left_over none n = n
left_over (some φ) n = size φ

-- not and plus stand over a unit term (01) ..
abbrev pub over_unit : Term → Bool
over_unit everyone = true
over_unit (role r) = true
over_unit (set m) = true
over_unit (¬ᵗ φ) = unit φ
over_unit (φ ⁺) = unit φ
over_unit (bin op φ ψ) = true

-- .. of 4: the first that does not, in the order of the words
abbrev pub not_over_unit : Option Term → ℕ
not_over_unit none = 0
not_over_unit (some φ) = first_failing over_unit (subterms φ)

-- the place that goes with a number; of 2 the first such word, and of 1 it is 0
abbrev pub place_of : ℕ → ℕ → List ℕ → ℕ → ℕ
place_of users roles ws k =
    cond (k == WORD) (first_failing (word_ok users roles) ws)
    (cond (k == TERM) (left_over (first ws) (length ws))
    (cond (k == UNIT) (not_over_unit (decode ws))
    0))

-- ── codes ──
-- 1 to 4, the numbers of the policy's author, have a place, and no other has
abbrev pub is_fault : ℕ → Bool
is_fault k = nat_le WORD_COUNT k && nat_le k UNIT

-- the code of a call that reads these words and answers this number
unfoldable pub code_at : ℕ → ℕ → List ℕ → ℕ → Code
code_at users roles ws k = cond (is_fault k) (Fault k (place_of users roles ws k)) (Plain k)

-- its number
abbrev pub code_number : Code → ℕ
code_number (Fault k p) = k
code_number (Plain k) = k
