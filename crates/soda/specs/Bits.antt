-- Binary digits of a number: read, set, cleared, and put together.
use Rattle.std.specs.Prelude.{Bool, cond, List, [], ◌∷◌, ℕ, ◌+◌, ◌-◌, ◌*◌, ◌/◌, ◌%◌, ◌^◌, eqb}

-- whether digit i is set, counted from the lowest, 0
abbrev pub bit : ℕ → ℕ → Bool
bit i n = eqb (n / 2 ^ i % 2) 1

-- a digit that is so already stays
unfoldable pub set_bit : ℕ → ℕ → ℕ
set_bit i n = cond (bit i n) n (n + 2 ^ i)

unfoldable pub clear_bit : ℕ → ℕ → ℕ
clear_bit i n = cond (bit i n) (n - 2 ^ i) n

-- the number with these digits, the lowest first
abbrev pub number : List Bool → ℕ
number [] = 0
number (b ∷ l) = cond b 1 0 + 2 * number l
