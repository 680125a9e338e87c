-- The cases of `Kind` of src: the kind of document 01's table that each is, and its number.
use Rattle.std.specs.Prelude.{ℕ, Option, Some, None}
use Rattle.soda.specs.Terms.{either, both, together, apart}
use Rattle.policy.specs.Kinds.{EVERYONE, ROLE, SET, NOT, PLUS, EITHER, BOTH, TOGETHER, APART}
use Rattle.policy.specs.Words.{Kind as TableKind, bad, everyone_k, role_k, set_k, not_k, plus_k, op_k}
use Rattle.policy.specs.declared.kinds.Kind.{Kind}
use Rattle.policy.specs.declared.kinds.Kind.TheVariants.{Everyone, Role, Set, Not, Plus, Either, Both, Together, Apart}

-- a word of kind 0 or past 9 has none
abbrev pub read_kind : Option Kind → TableKind
read_kind None = bad
read_kind (Some Everyone) = everyone_k
read_kind (Some Role) = role_k
read_kind (Some Set) = set_k
read_kind (Some Not) = not_k
read_kind (Some Plus) = plus_k
read_kind (Some Either) = op_k either
read_kind (Some Both) = op_k both
read_kind (Some Together) = op_k together
read_kind (Some Apart) = op_k apart

abbrev pub kind_number : Kind → ℕ
kind_number Everyone = EVERYONE
kind_number Role = ROLE
kind_number Set = SET
kind_number Not = NOT
kind_number Plus = PLUS
kind_number Either = EITHER
kind_number Both = BOTH
kind_number Together = TOGETHER
kind_number Apart = APART
