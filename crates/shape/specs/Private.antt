-- What the crate's own functions answer: the words of each kind, and the right sides.
use Rattle.std.specs.Prelude.{◌≡◌, List, map, ℕ, eqb}
use Rattle.std.proofs.Math.Option.{some}
use Rattle.std.specs.Int.Bits.{bit_or}
use Rattle.soda.specs.Lists.{padded}
use Rattle.soda.specs.Bits.{number}
use Rattle.soda.specs.Terms.{either, both, together, apart, Term}
use Rattle.policy.specs.Kinds.{PLUS, EITHER, BOTH, TOGETHER, APART}
use Rattle.policy.specs.Words.{Kind, bad, everyone_k, role_k, set_k, not_k, plus_k, op_k, kind, decode}
use Rattle.shape.specs.Shapes.{right_sides}
use Rattle.shape.specs.declared.Masks.{Masks}

-- the words of kind k
abbrev pub of_kind : ℕ → List ℕ → ℕ
of_kind k ws = number (map (λ w. eqb (kind w) k) ws)

-- m has the words of each kind
pub record MasksOf (ws : List ℕ) (m : Masks) : Type 0 where
  pub plus : m.plus ≡ of_kind PLUS ws
  pub either : m.either ≡ of_kind EITHER ws
  pub both : m.both ≡ of_kind BOTH ws
  pub together : m.together ≡ of_kind TOGETHER ws
  pub apart : m.apart ≡ of_kind APART ws

-- m with one word more, of kind K of 01's table and with the bit b
abbrev pub with_of : Masks → Kind → ℕ → Masks
with_of m bad b = m
with_of m everyone_k b = m
with_of m role_k b = m
with_of m set_k b = m
with_of m not_k b = m
with_of m plus_k b = record { plus = bit_or m.plus b; either = m.either; both = m.both; together = m.together; apart = m.apart }
with_of m (op_k either) b = record { plus = m.plus; either = bit_or m.either b; both = m.both; together = m.together; apart = m.apart }
with_of m (op_k both) b = record { plus = m.plus; either = m.either; both = bit_or m.both b; together = m.together; apart = m.apart }
with_of m (op_k together) b = record { plus = m.plus; either = m.either; both = m.both; together = bit_or m.together b; apart = m.apart }
with_of m (op_k apart) b = record { plus = m.plus; either = m.either; both = m.both; together = m.together; apart = bit_or m.apart b }

-- r has the places where right sides begin in the one term that the words are, if they are one
abbrev pub RightsOf : List ℕ → List ℕ → Type 0
RightsOf ws r = (φ : Term) → decode ws ≡ some φ → r ≡ padded 31 (right_sides 0 φ)
