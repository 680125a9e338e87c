-- What the crate's own functions answer: what is kept of a row of terms, and what is found of the one term.
use Rattle.std.specs.Prelude.{Bool, true, false, not, ◌&&◌, ◌||◌, cond, ℕ, ◌/◌, ◌^◌, eqb, Option as Maybe, Some, None}
use Rattle.std.proofs.Math.Option.{Option, some, none}
use Rattle.soda.specs.Bits.{bit}
use Rattle.soda.specs.Roles.{holds_role, meets_not}
use Rattle.soda.specs.Terms.{either, both, together, apart, Term, unit, well_formed, marks}
use Rattle.soda.specs.Tables.{met_bits}
use Rattle.policy.specs.Words.{Kind, bad, everyone_k, role_k, set_k, not_k, plus_k, op_k}
use Rattle.policy.specs.Masks.{put_of}
use Rattle.units.specs.declared.terms.Stack.{Stack}
use Rattle.units.specs.declared.terms.Analysis.{Analysis}

-- a term in the place of the row's first n, which are its sides; one side is that of not or plus, which stand over unit terms
abbrev pub placed_of : Stack → ℕ → Bool → Bool → Stack
placed_of s n u m = record {
  unit = put_of (s.unit / 2 ^ n) u;
  met = put_of (s.met / 2 ^ n) m;
  formed = s.formed && (not (eqb n 1) || bit 0 s.unit);
  units = put_of s.units u;
  noted = put_of s.noted (u && m);
}

-- none where the row has no more than the bit above its last term, or that and fewer terms
abbrev pub over_of : Stack → ℕ → Bool → Bool → Maybe Stack
over_of s n u m = cond (eqb (s.unit / 2 ^ n) 0) None (Some (placed_of s n u m))

-- both, or one, of the first two terms
abbrev pub both_of : ℕ → Bool
both_of bits = bit 0 bits && bit 1 bits

abbrev pub some_of : ℕ → Bool
some_of bits = bit 0 bits || bit 1 bits

-- by the word's kind, with operand x: it takes its sides from the row
abbrev pub step_of : ℕ → ℕ → Stack → Kind → ℕ → Maybe Stack
step_of u h s bad x = None
step_of u h s everyone_k x = over_of s 0 true (holds_role h)
step_of u h s role_k x = over_of s 0 true (bit x h)
step_of u h s set_k x = over_of s 0 true (bit u x && holds_role h)
step_of u h s not_k x = over_of s 1 (bit 0 s.unit) (meets_not h (bit 0 s.met))
step_of u h s plus_k x = over_of s 1 false false
step_of u h s (op_k either) x = over_of s 2 (both_of s.unit) (some_of s.met)
step_of u h s (op_k both) x = over_of s 2 (both_of s.unit) (both_of s.met)
step_of u h s (op_k together) x = over_of s 2 false false
step_of u h s (op_k apart) x = over_of s 2 false false

-- what is found of the term that some words are
abbrev pub analysis_in : ℕ → ℕ → Option Term → Maybe Analysis
analysis_in u h none = None
analysis_in u h (some φ) = Some (record { formed = well_formed φ; units = marks unit φ; noted = met_bits φ u h })
