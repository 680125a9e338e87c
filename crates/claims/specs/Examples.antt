-- Document 01's twelve settled examples in one table, two of them as document 02 alters them, and the claim that they hold, over the
-- definitions that the contracts cite. P1 is without its printing.
use Rattle.std.specs.Prelude.{Bool, true, false, ◌&&◌, cond, List, [], ◌∷◌, ℕ, eqb, length, take, replicate}
use Rattle.std.proofs.Math.Bool.{So}
use Rattle.soda.specs.Lists.{all, padded}
use Rattle.policy.specs.Reading.{read_policy, number_of}
use Rattle.normal.specs.NormalForms.{normal_out}
use Rattle.monitor.specs.Monitors.{Opening, bare, open_code, opened}
use Rattle.instance.specs.Letters.{letter_d, letter_c, letter_o}
use Rattle.monitor.specs.Runs.{run}
use Rattle.multiset.specs.MultisetTest.{letter_y, letter_n, test_of}
use Rattle.claims.specs.Runs.{Line, lines}

-- A list of events: what the opening is given, the event words, and what is expected after each. A multiset test: what it is given, how
-- often each user acts, and whether the answer is yes. A normal form: counts, policy words and what its words begin with. A policy:
-- counts, words and the number.
pub data Example : Type 0 where
  events : Opening → List ℕ → List Line → Example
  test : Opening → List ℕ → Bool → Example
  normal : ℕ → ℕ → List ℕ → List ℕ → Example
  number : ℕ → ℕ → List ℕ → ℕ → Example

abbrev pub same_numbers : List ℕ → List ℕ → Bool
same_numbers [] [] = true
same_numbers [] (y ∷ m) = false
same_numbers (x ∷ l) [] = false
same_numbers (x ∷ l) (y ∷ m) = eqb x y && same_numbers l m

abbrev pub same_lines : List Line → List Line → Bool
same_lines [] [] = true
same_lines [] (y ∷ m) = false
same_lines (x ∷ l) [] = false
same_lines (x ∷ l) (y ∷ m) = eqb x.0 y.0 && (eqb x.1 y.1 && (eqb x.2 y.2 && same_lines l m))

-- every call has a workspace of 8,192 words, the normal form an output of 31
abbrev pub holds : Example → Bool
holds (events start words expected) = eqb (open_code start) 0 && same_lines (lines (run (opened start) words (λ k. 8192))) expected
holds (test start counts b) = eqb (test_of start (padded 16 counts) 8192).letter (cond b letter_y letter_n)
holds (normal users roles words expected) = same_numbers (take (length expected) (normal_out users roles words (replicate 31 0))) expected
holds (number users roles words k) = eqb (number_of (read_policy users roles words)) k

-- policy F (Example 3 of document 004)
abbrev pub F : List ℕ
F =
    0x08000000 ∷ 0x09000000 ∷ 0x02000000 ∷ 0x06000000 ∷ 0x02000002 ∷ 0x09000000 ∷ 0x02000000 ∷ 0x02000000 ∷ 0x05000000 ∷ 0x01000000 ∷ []

-- together(role 2, not role 2)
abbrev pub G : List ℕ
G = 0x08000000 ∷ 0x02000002 ∷ 0x04000000 ∷ 0x02000002 ∷ []

-- together(s, together(s, plus s)), s the set of user 1 alone
abbrev pub H : List ℕ
H = 0x08000000 ∷ 0x03000002 ∷ 0x08000000 ∷ 0x03000002 ∷ 0x05000000 ∷ 0x03000002 ∷ []

-- an event's number, and after it a status that is not refused, with the letter o, c or d
abbrev pub o : ℕ → Line
o k = (k, 0, letter_o)

abbrev pub c : ℕ → Line
c k = (k, 0, letter_c)

abbrev pub d : ℕ → Line
d k = (k, 0, letter_d)

abbrev pub table : List Example
table =
    -- P1: listing L
    events (bare 3 3 F (2 ∷ 1 ∷ 0 ∷ []))
    (0x01000001 ∷ 0x01000102 ∷ 0x02000102 ∷ 0x02000202 ∷ 0x04000000 ∷ 0x01000203 ∷ 0x01000004 ∷ 0x04000000 ∷ 0x01000004 ∷ [])
    (o 0 ∷ o 0 ∷ o 0 ∷ o 0 ∷ o 11 ∷ c 0 ∷ c 0 ∷ d 0 ∷ d 10 ∷ [])
    -- P2, P3, P4
    ∷ test (bare 3 3 F (2 ∷ 5 ∷ 4 ∷ [])) (2 ∷ 1 ∷ 1 ∷ []) true
    ∷ test (bare 3 3 F (2 ∷ 5 ∷ 4 ∷ [])) (1 ∷ 0 ∷ 1 ∷ []) false
    ∷ test (bare 3 3 F (2 ∷ 5 ∷ 4 ∷ [])) (1 ∷ 1 ∷ []) false
    -- P5: user 2 acts first
    ∷ events (bare 3 3 F (2 ∷ 1 ∷ 0 ∷ [])) (0x01000200 ∷ []) (o 9 ∷ [])
    -- P6: grant user 1 role 2, act, withdraw, act, close; by document 02's E3 the last action is answered 9 and the close 11
    ∷ events (bare 3 3 G (0 ∷ 0 ∷ 0 ∷ [])) (0x02000102 ∷ 0x01000100 ∷ 0x03000102 ∷ 0x01000100 ∷ 0x04000000 ∷ []) (o 0 ∷ o 0 ∷ o 0 ∷ o 9 ∷ o 11 ∷ [])
    -- P7: user 0 makes the first action; by E3 it is answered 9 as well
    ∷ events (bare 3 3 G (0 ∷ 0 ∷ 0 ∷ [])) (0x02000102 ∷ 0x01000000 ∷ 0x03000102 ∷ 0x01000100 ∷ []) (o 0 ∷ o 9 ∷ o 0 ∷ o 9 ∷ [])
    -- P8: two of her actions o, three c, four c
    ∷ events (bare 2 1 H (0 ∷ 1 ∷ [])) (0x01000100 ∷ 0x01000100 ∷ 0x01000100 ∷ 0x01000100 ∷ []) (o 0 ∷ o 0 ∷ c 0 ∷ c 0 ∷ [])
    -- P9: apart(role 0, role 0), one user
    ∷ events (bare 1 1 (0x09000000 ∷ 0x02000000 ∷ 0x02000000 ∷ []) (1 ∷ [])) (0x01000000 ∷ 0x01000000 ∷ []) (o 0 ∷ o 9 ∷ [])
    -- P10: the normal form of F
    ∷ normal 3 3 F (0x08000000 ∷ 0x05000000 ∷ 0x01000000 ∷ 0x09000000 ∷ 0x02000000 ∷ 0x06000000 ∷ [])
    -- P11: both(everyone, everyone) is its own
    ∷ normal 3 3 (0x07000000 ∷ 0x01000000 ∷ 0x01000000 ∷ []) (0x07000000 ∷ 0x01000000 ∷ 0x01000000 ∷ [])
    -- P12: plus over together
    ∷ number 3 3 (0x05000000 ∷ 0x08000000 ∷ 0x01000000 ∷ 0x01000000 ∷ []) 4
    ∷ []

abbrev pub Settled : Type 0
Settled = So (all holds table)
