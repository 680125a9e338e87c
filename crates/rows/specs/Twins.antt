-- Sets that differ only in actions that are alike: by one user, who met the same unit terms.
use Rattle.std.specs.Prelude.{ℕ, ◌+◌, ◌-◌, ◌%◌, ◌^◌, cond, ◌==◌, bit_and, nat_lt}

-- the places of `alike` that t lacks, and the first place of a set
abbrev pub spare_of : ℕ → ℕ → ℕ
spare_of alike t = alike - bit_and alike t

abbrev pub first_of : ℕ → ℕ
first_of n = n - bit_and n (n - 1)

-- t with the first place of `alike` that it lacks, or else `top` with a twin of t that is less, or with t; modulo 2^64
abbrev pub twin_of : ℕ → ℕ → ℕ → ℕ → ℕ
twin_of alike top t twin = cond (spare_of alike t == 0) (top + cond (nat_lt twin t) twin t) (t + first_of (spare_of alike t)) % 2 ^ 64
