-- What is proved of a configuration. Statements only.
use Rattle.std.specs.Prelude.{◌≡◌, List, ℕ, length}
use Rattle.std.proofs.Math.Bool.{So}
use Rattle.configuration.specs.Configurations.{rows_ok}

-- Rows to which 6 does not apply are one a user.
abbrev pub OneEach : Type 0
OneEach = (users roles : ℕ) (rows : List ℕ) → So (rows_ok users roles rows) → length rows ≡ users
