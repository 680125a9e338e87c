-- Cases without permissions and workflow (document 02, E4): "an empty one counting as not given", and "a file whose first offset is 12 has
-- neither".
use Rattle.std.specs.Prelude.{◌≡◌, List, [], ℕ}
use Rattle.std.proofs.Math.Bool.{So}
use Rattle.casefile.specs.Cases.{offset, part_length, case_ok, opening_of, event_words}
use Rattle.casefile.specs.Texts.{case_text}

-- what its opening is given
abbrev pub GivesNeither : List ℕ → Type 0
GivesNeither b = ((opening_of b).permissions ≡ []) × ((opening_of b).workflow ≡ [])

abbrev pub ThreePairsGiveNeither : Type 0
ThreePairsGiveNeither = (b : List ℕ) → offset b 0 ≡ 12 → GivesNeither b

abbrev pub EmptyPartsGiveNeither : Type 0
EmptyPartsGiveNeither = (b : List ℕ) → part_length b 3 ≡ 0 → part_length b 4 ≡ 0 → GivesNeither b

-- the first three parts say the same
pub record Alike (b d : List ℕ) : Type 0 where
  pub users : (opening_of b).users ≡ (opening_of d).users
  pub roles : (opening_of b).roles ≡ (opening_of d).roles
  pub words : (opening_of b).words ≡ (opening_of d).words
  pub rows : (opening_of b).rows ≡ (opening_of d).rows
  pub events : event_words b ≡ event_words d

-- So a case of five pairs whose last two parts are empty prints what the case of three pairs prints.
abbrev pub EmptyPrintsAsThreePairs : Type 0
EmptyPrintsAsThreePairs =
    (b d : List ℕ) → So (case_ok b) → So (case_ok d) → offset b 0 ≡ 12 → part_length d 3 ≡ 0 → part_length d 4 ≡ 0 → Alike b d
    → case_text b ≡ case_text d
