-- Numbers laid over the front of zeros.
use mathlib.Core.Path.{◌≡◌, ap}
use mathlib.Core.List.{List, ◌++◌}
use Prim.Native.Nat.{ℕ}
use lib.ListN.{length, drop, replicate}
use Rattle.std.proofs.lemmas.List.{drop-replicate}
use Rattle.soda.specs.Lists.{padded}

pub padded_over : (n : ℕ) (l : List ℕ) → l ++ drop (length l) (replicate n 0) ≡ padded n l
padded_over n l = ap (λ (r : List ℕ). l ++ r) (drop-replicate (length l) n 0)
