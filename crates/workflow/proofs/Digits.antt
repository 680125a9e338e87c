-- Digits of a set of 16.
use mathlib.Core.Path.{◌≡◌}
use mathlib.Core.Bool.{false}
use Prim.Native.Nat.{ℕ, ◌^◌, ◌≤◌, ◌<◌}
use Rattle.std.proofs.lemmas.Nat.Bits.{bit_at_above}
use Rattle.soda.specs.Bits.{bit}

-- it has no digit past 15
pub past_is_clear : (set i : ℕ) → set < 2 ^ 16 → 16 ≤ i → bit i set ≡ false
past_is_clear set i h k = rw (bit_at_above set 16 i h k)
