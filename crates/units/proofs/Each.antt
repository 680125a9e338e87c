-- What each user meets, as it is laid out: the first u of them, and zeros behind.
use Rattle.std.proofs.Common.{◌≡◌, ℕ, ◌+◌, ◌<◌, List, length, sym, ap₂, ◌∙◌, map, arith}
use lib.ListN.{set, length-map}
use Rattle.soda.specs.Lists.{range}
use Rattle.soda.specs.Roles.{roles}
use Rattle.soda.proofs.Lists.{copied, copied_next, range_length, map_below}
use Rattle.units.specs.Units.{met_of}

abbrev pub mets : List ℕ → List ℕ → List ℕ
mets words rows = map (λ u. met_of words u (roles rows u)) (range 0 (length rows))

pub mets_length : (words rows : List ℕ) → length (mets words rows) ≡ length rows
mets_length words rows = length-map (range 0 (length rows)) (λ u. met_of words u (roles rows u)) ∙ range_length 0 (length rows)

-- the next user's
pub laid : (words rows each : List ℕ) (u m : ℕ) → u < length rows → u < 16 → each ≡ copied 16 (mets words rows) u → m ≡ met_of words u (roles rows u)
    → set each u m ≡ copied 16 (mets words rows) (u + 1)
laid words rows each u m h k e is =
    ap₂ (λ o n. set o u n) e (is ∙ sym (map_below (λ v. met_of words v (roles rows v)) 0 (length rows) u h))
    ∙ copied_next 16 (mets words rows) u (omega (arith, mets_length words rows)) k
