-- The invariant: t's lowest action, and the parts of its other actions above a with and without it, are gathered. The measure is a.
use Rattle.std.proofs.Common.{ℕ, Bool, false, ◌≡◌, ◌-◌}
use Rattle.workspace.specs.declared.entry.Entry.{Entry}
use Rattle.workspace.specs.Private.{Gathers, entry_at}
use Rattle.workspace.proofs.Submask.{Within}
use Rattle.workspace.proofs.Walk.{At}
use Rattle.workspace.proofs.parts.joined.Given as goal

abbrev pub invariant-loop-a : goal.invariant-loop-a
invariant-loop-a g l =
    Within l.a l.high
    × ((has : _ → ℕ → Bool) (f : Entry → Entry → ℕ → Bool) → Gathers (goal.F-post g l.gather) has f → ((q : ℕ) → has l.fn.none q ≡ false)
    → At (λ x. f (entry_at l.sets x) (entry_at l.sets (l.s - x))) l.s l.t l.high l.a (has l.found))

abbrev pub decreases-loop-a : goal.decreases-loop-a
decreases-loop-a g l = l.a
