-- One computed test: what reading answers for each row of a table.
use Rattle.std.proofs.Common.{◌≡◌, ℕ, List, [], ◌∷◌, map, replicate, refl}
use Rattle.policy.specs.Codes.{WORD_COUNT, WORD, TERM, UNIT, COUNTS}
use Rattle.policy.specs.Faults.{code_at}
use Rattle.policy.specs.Reading.{read_policy}
use Rattle.policy.specs.Codes.{Fault, Plain}
use Rattle.policy.specs.Reading.{PolicyRead}
use Rattle.policy.specs.Reading.{Accepted, Refused}

record Case : Type 0 where
  users : ℕ
  roles : ℕ
  words : List ℕ
  answer : PolicyRead

-- counts, words, and what is expected
abbrev row : ℕ → ℕ → List ℕ → PolicyRead → Case
row u r ws a = record { users = u; roles = r; words = ws; answer = a }

-- 01's listing F
abbrev F : List ℕ
F =
    0x08000000 ∷ 0x09000000 ∷ 0x02000000 ∷ 0x06000000 ∷ 0x02000002
    ∷ 0x09000000 ∷ 0x02000000 ∷ 0x02000000 ∷ 0x05000000 ∷ 0x01000000 ∷ []

-- n times both, each over everyone and the next
abbrev chain : List ℕ → List ℕ
chain ws = 0x07000000 ∷ 0x01000000 ∷ ws

abbrev long : List ℕ
long =
    chain (chain (chain (chain (chain (chain (chain (chain (chain (chain (chain (chain (chain (chain (chain (0x01000000 ∷ [])))))))))))))))

abbrev cases : List Case
cases =
    row 3 3 F (Accepted 10 724)
    -- 31 words, and 32, which are no term either
    ∷ row 1 1 long (Accepted 31 0x7fffffff)
    ∷ row 1 1 (0x01000000 ∷ long) (Refused (Fault WORD_COUNT 0))
    -- 5 before 1: counts out of range, and no word
    ∷ row 17 3 [] (Refused (Plain COUNTS))
    ∷ row 3 0 [] (Refused (Plain COUNTS))
    ∷ row 16 16 [] (Refused (Fault WORD_COUNT 0))
    -- 1 before 2: 32 words out of the layout
    ∷ row 3 3 (replicate 32 0) (Refused (Fault WORD_COUNT 0))
    -- 2 before 3, at the first bad word: bits 16 to 23, kind 0, kind 10, an operand, role 3, user 3, no user, each with a word left over
    ∷ row 3 3 (0x01010000 ∷ 0x01000000 ∷ []) (Refused (Fault WORD 0))
    ∷ row 3 3 (0x00000000 ∷ 0x01000000 ∷ []) (Refused (Fault WORD 0))
    ∷ row 3 3 (0x0a000000 ∷ 0x01000000 ∷ []) (Refused (Fault WORD 0))
    ∷ row 3 3 (0x01000001 ∷ 0x01000000 ∷ []) (Refused (Fault WORD 0))
    ∷ row 3 3 (0x02000003 ∷ 0x01000000 ∷ []) (Refused (Fault WORD 0))
    ∷ row 3 3 (0x03000008 ∷ 0x01000000 ∷ []) (Refused (Fault WORD 0))
    ∷ row 3 3 (0x03000000 ∷ 0x01000000 ∷ []) (Refused (Fault WORD 0))
    -- kinds 0, 10 and 255 with the sides that the rule would give them
    ∷ row 3 3 (0x00000000 ∷ []) (Refused (Fault WORD 0))
    ∷ row 3 3 (0x0a000000 ∷ 0x01000000 ∷ 0x01000000 ∷ []) (Refused (Fault WORD 0))
    ∷ row 3 3 (0xff000000 ∷ 0x01000000 ∷ 0x01000000 ∷ []) (Refused (Fault WORD 0))
    -- of two bad words the first; the last word
    ∷ row 3 3 (0x08000000 ∷ 0x03000000 ∷ 0x02000003 ∷ []) (Refused (Fault WORD 1))
    ∷ row 3 3 (0x08000000 ∷ 0x01000000 ∷ 0x02000003 ∷ []) (Refused (Fault WORD 2))
    -- 3 before 4: plus over together with a word left over, and with the words running out
    ∷ row 3 3 (0x05000000 ∷ 0x08000000 ∷ 0x01000000 ∷ 0x01000000 ∷ 0x01000000 ∷ []) (Refused (Fault TERM 4))
    ∷ row 3 3 (0x05000000 ∷ 0x08000000 ∷ 0x01000000 ∷ []) (Refused (Fault TERM 3))
    -- a word with sides left over, and 31 words that run out
    ∷ row 3 3 (0x01000000 ∷ 0x08000000 ∷ 0x01000000 ∷ 0x01000000 ∷ []) (Refused (Fault TERM 1))
    ∷ row 3 3 (replicate 31 0x04000000) (Refused (Fault TERM 31))
    -- not over plus, and the same in the right side behind a plus over everyone
    ∷ row 3 3 (0x04000000 ∷ 0x05000000 ∷ 0x01000000 ∷ []) (Refused (Fault UNIT 0))
    ∷ row 3 3 (0x08000000 ∷ 0x05000000 ∷ 0x01000000 ∷ 0x04000000 ∷ 0x05000000 ∷ 0x01000000 ∷ []) (Refused (Fault UNIT 3))
    -- each of two nots stands over no unit term
    ∷ row 3 3 (0x04000000 ∷ 0x04000000 ∷ 0x05000000 ∷ 0x01000000 ∷ []) (Refused (Fault UNIT 0))
    ∷ []

computed :
    map (λ (c : Case). row c.users c.roles c.words (read_policy c.users c.roles c.words)) cases ≡ cases
unfolding read_policy code_at
computed = refl
