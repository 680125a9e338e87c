-- One computed test: what the normal form call answers for each row of a table.
use mathlib.Core.Path.{◌≡◌, refl}
use mathlib.Core.List.{List, [], ◌∷◌, map}
use Prim.Native.Nat.{ℕ}
use lib.ListN.{length, replicate}
use Rattle.normal.specs.NormalForms.{normal_words, normal_refusals, normal_code, normal_out}

-- policy F (Example 3 of document 004)
abbrev F : List ℕ
F = 0x08000000 ∷ 0x09000000 ∷ 0x02000000 ∷ 0x06000000 ∷ 0x02000002 ∷ 0x09000000 ∷ 0x02000000 ∷ 0x02000000 ∷ 0x05000000 ∷ 0x01000000 ∷ []

record NormalCase : Type 0 where
  users : ℕ
  roles : ℕ
  words : List ℕ
  out : List ℕ
  number : ℕ
  new : List ℕ

-- counts, words, the output before, and what is expected
abbrev normal : ℕ → ℕ → List ℕ → List ℕ → ℕ → List ℕ → NormalCase
normal u r ws o k n = record { users = u; roles = r; words = ws; out = o; number = k; new = n }

abbrev normals : List NormalCase
normals =
    -- a chain that leans left, with its operands descending, in an output of two words more
    normal 3 3 (0x06000000 ∷ 0x06000000 ∷ 0x02000002 ∷ 0x02000001 ∷ 0x02000000 ∷ []) (replicate 7 7) 0
    (0x06000000 ∷ 0x02000000 ∷ 0x06000000 ∷ 0x02000001 ∷ 0x02000002 ∷ 7 ∷ 7 ∷ [])
    -- equal operands are all kept
    ∷ normal 3 3 (0x08000000 ∷ 0x02000001 ∷ 0x08000000 ∷ 0x02000000 ∷ 0x02000001 ∷ []) (replicate 5 7) 0
    (0x08000000 ∷ 0x02000000 ∷ 0x08000000 ∷ 0x02000001 ∷ 0x02000001 ∷ [])
    -- 13, and 5 and 4 before 13
    ∷ normal 3 3 F (replicate 9 7) 13 (replicate 9 7)
    ∷ normal 3 17 F [] 5 []
    ∷ normal 3 3 (0x05000000 ∷ 0x08000000 ∷ 0x01000000 ∷ 0x01000000 ∷ []) [] 4 []
    ∷ []

normals_computed :
    map (λ (c : NormalCase). normal c.users c.roles c.words c.out (normal_code c.users c.roles c.words (length c.out))
    (normal_out c.users c.roles c.words c.out)) normals ≡ normals
unfolding normal_refusals normal_words normal_out
normals_computed = refl
