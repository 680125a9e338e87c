-- Before i no word fails its test, and the mask is that of the words from i on.
use Rattle.std.proofs.Common.{◌≡◌, ℕ, ◌+◌, ◌≤◌, List, length, drop}
use Rattle.soda.specs.Lists.{first_failing}
use Rattle.policy.specs.Private.{over_units}
use Rattle.policy.proofs.reading.not_over_unit.Given as goal

abbrev failing : ℕ → List ℕ → ℕ
failing units ws = first_failing (λ b. b) (over_units units ws)

abbrev pub invariant-loop-i : goal.invariant-loop-i
invariant-loop-i l = (l.i ≤ length l.words) × (failing l.units l.words ≡ l.i + failing l.rest (drop l.i l.words))
