-- A part that is empty or not there gives no bytes, so that the opening is that of three pairs.
use mathlib.Core.Path.{◌≡◌, refl, sym, ap₂, ◌∙◌}
use mathlib.Core.Bool.{Bool, true, false, cond}
use mathlib.Core.List.{List, []}
use Prim.Native.Nat.{ℕ, ◌+◌, ◌-◌}
use native.Mathlib.Omega.{arith}
use lib.Dec.{eqb}
use Rattle.monitor.specs.Monitors.{Opening, open_code, opened, opening}
use Rattle.casefile.specs.Cases.{offset, part_length, has_five, slice, opening_of}
use Rattle.casefile.specs.Texts.{refused_text, run_text, case_text}
use Rattle.casefile.specs.Parts.{GivesNeither, ThreePairsGiveNeither, EmptyPartsGiveNeither, Alike, EmptyPrintsAsThreePairs}

pub three_pairs_give_neither : ThreePairsGiveNeither
three_pairs_give_neither b h = (rw h, rw h)

no_bytes : (b : List ℕ) (k n : ℕ) (five : Bool) → n ≡ 0 → cond five (slice b k (k + n)) [] ≡ []
no_bytes b k n true h = let e : k + n - k ≡ 0 = omega arith in rw e
no_bytes b k n false h = refl

pub empty_parts_give_neither : EmptyPartsGiveNeither
empty_parts_give_neither b p w = (no_bytes b (offset b 3) (part_length b 3) (has_five b) p, no_bytes b (offset b 4) (part_length b 4) (has_five b) w)

-- both give neither
same-opening : (b d : List ℕ) → GivesNeither b → GivesNeither d → Alike b d → opening_of b ≡ opening_of d
same-opening b d x y a = λ i. record {
  users = a.users i;
  roles = a.roles i;
  words = a.words i;
  rows = a.rows i;
  permissions = (x.0 ∙ sym y.0) i;
  workflow = (x.1 ∙ sym y.1) i;
}

-- the text of a case that is not malformed
abbrev text_of : Opening → List ℕ → List ℕ
text_of o ws = cond (eqb (open_code o) 0) (run_text (opened o) ws) (refused_text (opening o).code)

pub empty_prints_as_three_pairs : EmptyPrintsAsThreePairs
unfolding case_text
empty_prints_as_three_pairs b d p q three permissions workflow a =
    let same = same-opening b d (three_pairs_give_neither b three) (empty_parts_give_neither d permissions workflow) a in
    rw (p, q) (ap₂ text_of same a.events)
