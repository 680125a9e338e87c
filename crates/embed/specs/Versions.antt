-- What the library says of itself, for a program to hold against the header that it was compiled with.
use Rattle.std.specs.Prelude.{ℕ, ◌+◌, ◌*◌}

-- the library's version, 0.8.0: major, minor and patch number, a byte each
abbrev pub version : ℕ
version = (0 * 256 + 8) * 256 + 0

-- the number of the layout of what is lent, another one whenever a field of it comes, goes, moves or means something else
abbrev pub layout : ℕ
layout = 4
