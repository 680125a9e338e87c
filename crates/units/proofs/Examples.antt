-- Computed tests: for each row of a table the words that begin unit terms, and those that user 1 meets who holds roles 0 and 2; without a
-- role the same user meets none of them.
use mathlib.Core.Path.{◌≡◌, refl}
use mathlib.Core.List.{List, [], ◌∷◌, map}
use Prim.Native.Nat.{ℕ}
use Rattle.units.specs.Units.{unit_words, met_of}

record Case : Type 0 where
  words : List ℕ
  units : ℕ
  met : ℕ

-- words, and what is expected
abbrev row : List ℕ → ℕ → ℕ → Case
row ws u m = record { words = ws; units = u; met = m }

-- 01's listing F
abbrev F : List ℕ
F =
    0x08000000 ∷ 0x09000000 ∷ 0x02000000 ∷ 0x06000000 ∷ 0x02000002
    ∷ 0x09000000 ∷ 0x02000000 ∷ 0x02000000 ∷ 0x05000000 ∷ 0x01000000 ∷ []

-- n times both, each over everyone and the next
abbrev chain : List ℕ → List ℕ
chain ws = 0x07000000 ∷ 0x01000000 ∷ ws

abbrev long : List ℕ
long =
    chain (chain (chain (chain (chain (chain (chain (chain (chain (chain (chain (chain (chain (chain (chain (0x01000000 ∷ [])))))))))))))))

abbrev cases : List Case
cases =
    row F 724 724
    -- 31 words, 32 words, none
    ∷ row long 0x7fffffff 0x7fffffff
    ∷ row (0x01000000 ∷ long) 0 0
    ∷ row [] 0 0
    -- a role that the user does not hold, and not over it
    ∷ row (0x02000001 ∷ []) 1 0
    ∷ row (0x04000000 ∷ 0x02000001 ∷ []) 3 1
    -- not twice
    ∷ row (0x04000000 ∷ 0x04000000 ∷ 0x01000000 ∷ []) 7 5
    -- a set without the user, and not over it
    ∷ row (0x03000001 ∷ []) 1 0
    ∷ row (0x04000000 ∷ 0x03000001 ∷ []) 3 1
    -- kind 0, a word left over, the words running out
    ∷ row (0x00000000 ∷ []) 0 0
    ∷ row (0x01000000 ∷ 0x01000000 ∷ []) 0 0
    ∷ row (0x08000000 ∷ 0x01000000 ∷ []) 0 0
    -- not over plus: a term that is not well formed
    ∷ row (0x04000000 ∷ 0x05000000 ∷ 0x01000000 ∷ []) 0 4
    ∷ []

computed : map (λ (c : Case). row c.words (unit_words c.words) (met_of c.words 1 5)) cases ≡ cases
unfolding unit_words met_of
computed = refl

without_a_role : map (λ (c : Case). met_of c.words 1 0) cases ≡ map (λ (c : Case). 0) cases
unfolding met_of
without_a_role = refl
