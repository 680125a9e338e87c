-- Masks over the words of a policy.
use Rattle.std.specs.Prelude.{ℕ, ◌*◌, ◌%◌, ◌^◌, Bool, cond, bit_or}

-- bits with one more below them, in 32 bits
abbrev pub put_of : ℕ → Bool → ℕ
put_of n b = bit_or (n * 2 ^ 1 % 2 ^ 32) (cond b 1 0)
