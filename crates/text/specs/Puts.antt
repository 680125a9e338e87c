-- What a function leaves that writes at an output's start. It serves contracts of private functions only.
use Rattle.std.specs.Prelude.{◌≡◌, List, ◌++◌, ℕ, length, drop}

-- a list at an output's start, and how long it is
pub record Put (list out : List ℕ) (r : ℕ) (new : List ℕ) : Type 0 where
  pub count : r ≡ length list
  pub holds : new ≡ list ++ drop (length list) out
