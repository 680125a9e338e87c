-- Document 01's kinds of words, bits 24 to 31. Those of policy words are the cases of `Kind` in src/kinds.rt, those of event words are `monitor`'s, under the same names.
use Rattle.std.specs.Prelude.{ℕ}

-- ── of policy words ("People, roles and policy words") ──
-- everyone (All)
abbrev pub EVERYONE : ℕ
EVERYONE = 1

-- a role; the operand is its number
abbrev pub ROLE : ℕ
ROLE = 2

-- a set; the operand is a mask of users, not zero
abbrev pub SET : ℕ
SET = 3

abbrev pub NOT : ℕ
NOT = 4

abbrev pub PLUS : ℕ
PLUS = 5

-- ⊔
abbrev pub EITHER : ℕ
EITHER = 6

-- ⊓
abbrev pub BOTH : ℕ
BOTH = 7

-- ⊙
abbrev pub TOGETHER : ℕ
TOGETHER = 8

-- ⊗
abbrev pub APART : ℕ
APART = 9

-- ── of event words ("Sheets and events") ──
abbrev pub ACTION : ℕ
ACTION = 1

abbrev pub GRANT : ℕ
GRANT = 2

-- document 01: withdraw
abbrev pub REVOKE : ℕ
REVOKE = 3

abbrev pub CLOSE : ℕ
CLOSE = 4
