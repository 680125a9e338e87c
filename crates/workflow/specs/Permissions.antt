-- Permissions in bytes (document 02, E4): "eight bytes a role, low first, bit a for action a". What they give is `authorized` of soda.
use Rattle.std.specs.Prelude.{Bool, ◌&&◌, List, map, ℕ, zero, suc, ◌+◌, ◌*◌, leb, eqb, length, get_or}
use Rattle.soda.specs.Lists.{range, padded}

-- the number that n bytes from place k on say, low byte first
abbrev pub low_first : ℕ → List ℕ → ℕ → ℕ
low_first zero b k = 0
low_first (suc n) b k = get_or b k 0 + 256 * low_first n b (k + 1)

-- "wrong length": eight bytes a role, of which there are at most 16
abbrev pub permissions_ok : ℕ → List ℕ → Bool
permissions_ok roles b = leb roles 16 && eqb (length b) (roles * 8)

-- the permission assignment PA that they say, and with zeros behind it
abbrev pub permissions_in : ℕ → List ℕ → List ℕ
permissions_in roles b = map (λ r. low_first 8 b (r * 8)) (range 0 roles)

unfoldable pub permission_rows : ℕ → List ℕ → List ℕ
permission_rows roles b = padded 16 (permissions_in roles b)
