-- The digits of packed rows and masks, and of what is read off them.
use Rattle.std.specs.Prelude.{◌≡◌, ℕ, ◌+◌, ◌*◌, ◌/◌, ◌%◌, ◌<◌, Bool, cond, ◌&&◌, ◌||◌, ◌==◌, bit_and}
use Rattle.soda.specs.Bits.{bit}

-- where word i stands in a row: satisfied in digits 0 to 31, possible in digits 32 to 63
abbrev pub place : Bool → ℕ → ℕ
place e i = cond e 32 0 + i

-- r packs a mask for each column
abbrev pub Packed : ℕ → ℕ → ℕ → Type 0
Packed satisfied possible r = (e : Bool) (i : ℕ) → i < 32 → bit (place e i) r ≡ bit i (cond e possible satisfied)

-- a row turned by one digit has the digits of the words' left sides, and its first digit stands last; and what the columns of such a row are
abbrev pub turned_row : ℕ → ℕ
turned_row row = row / 2 + 9223372036854775808 * (row % 2)

abbrev pub satisfied_in : ℕ → ℕ
satisfied_in left = 2 * (left % 2147483648) + left / 9223372036854775808

abbrev pub possible_in : ℕ → ℕ
possible_in left = left / 2147483648 % 4294967296

-- what the rows "unit" and "plus" give: `met` packs the unit terms that all actions met, and `ones` is the number of the actions
abbrev pub based : ℕ → ℕ → ℕ → ℕ → ℕ → Bool
based units plus met ones q = (ones == 1 && (bit q met && bit q units)) || (bit (1 + q) met && bit q plus)

-- the words x that count for two parts: only those of `anyone` where users are shared
abbrev pub counted_of : ℕ → ℕ → ℕ → ℕ
counted_of x shared anyone = cond (shared == 0) x (bit_and x anyone)

-- the words of `joint` that two sets are possible for, by their digits at left sides, where possible begins at digit 31
abbrev pub Chance : ℕ → ℕ → ℕ → ℕ → Type 0
Chance joint one two r = (e : Bool) (i : ℕ) → i < 32 → bit (place e i) r ≡ (bit (place e i) joint && (bit (31 + i) one && bit (31 + i) two))
