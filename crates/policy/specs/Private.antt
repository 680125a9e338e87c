-- What the crate's own functions answer: tests of words, places, and the first term of some words.
use Rattle.std.specs.Prelude.{ℕ, ◌+◌, ◌-◌, ◌*◌, ◌/◌, ◌%◌, ◌^◌, Bool, not, ◌&&◌, ◌||◌, List, [], ◌∷◌, ◌==◌, bit_or, nat_lt}
use Rattle.std.specs.Prelude.{Option as Maybe, Some, None}
use Rattle.std.proofs.Math.Option.{Option, some, none}
use Rattle.soda.specs.Lists.{all}
use Rattle.soda.specs.Bits.{bit}
use Rattle.soda.specs.Terms.{Term, unit, well_formed, size, marks}
use Rattle.policy.specs.Kinds.{NOT, TOGETHER}
use Rattle.policy.specs.Masks.{put_of}
use Rattle.policy.specs.Words.{kind, sides, known}
use Rattle.policy.specs.declared.reader.First.{First}

abbrev pub all_known : List ℕ → Bool
all_known ws = all (λ w. known (kind w)) ws

-- for each kind of 01's table, how many words are in the layout and name only what is declared: they follow one another
abbrev pub rooms_of : ℕ → ℕ → List ℕ
rooms_of users roles = 0 ∷ 1 ∷ roles ∷ (2 ^ users - 1) ∷ 1 ∷ 1 ∷ 1 ∷ 1 ∷ 1 ∷ 1 ∷ []

-- for each word, whether it has another number of sides than one, or its side, at the next word, is a unit term by the mask of those
abbrev pub over_units : ℕ → List ℕ → List Bool
over_units units [] = []
over_units units (w ∷ ws) = (not (sides (kind w) == 1) || bit 0 (units / 2 ^ 1)) ∷ over_units (units / 2 ^ 1) ws

-- what is read of a term, and of the first term of some words, if there is one
abbrev pub read_of : Term → First
read_of φ = record { words = size φ; unit = unit φ; formed = well_formed φ; units = marks unit φ }

abbrev pub first_in : Option Term → Maybe First
first_in none = None
first_in (some φ) = Some (read_of φ)

-- not or plus over a side
abbrev pub over_side : ℕ → First → First
over_side k a = record {
  words = 1 + a.words;
  unit = k == NOT && a.unit;
  formed = a.unit && a.formed;
  units = put_of a.units (k == NOT && a.unit);
}

-- an operator between two sides
abbrev pub beside_sides : ℕ → First → First → First
beside_sides k a b = record {
  words = 1 + a.words + b.words;
  unit = nat_lt k TOGETHER && (a.unit && b.unit);
  formed = a.formed && b.formed;
  units = put_of (bit_or (b.units * 2 ^ a.words % 2 ^ 32) a.units) (nat_lt k TOGETHER && (a.unit && b.unit));
}
