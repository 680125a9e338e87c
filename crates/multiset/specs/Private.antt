-- What the multiset test's private functions ask for.
use Rattle.std.specs.Prelude.{◌≡◌, List, ℕ, ◌≤◌, length, drop}
use Rattle.multiset.specs.MultisetTest.{total}

-- the counts are of at most twelve actions, all by users with a row
pub record Counted (rows counts : List ℕ) : Type 0 where
  pub rows_most : length rows ≤ 16
  pub few : total counts ≤ 12
  pub declared : total (drop (length rows) counts) ≡ 0
