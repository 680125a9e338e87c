-- The numbers of events are below 18, and those of refusals above 0.
use mathlib.Core.Path.{refl}
use mathlib.Core.Bool.{Bool, true, false, So, cond}
use mathlib.Core.List.{List, [], ◌∷◌}
use Prim.Native.Nat.{ℕ, ◌<◌, ◌≤◌}
use native.Mathlib.Omega.{arith}
use lib.Dec.{ltb, lit<}
use Rattle.soda.specs.Lists.{all}
use Rattle.soda.proofs.Bools.{and_split, so_lt}
use Rattle.policy.specs.Refusals.{code}
use Rattle.policy.specs.Faults.{code_number}
use Rattle.policy.specs.Answers.{code_of}
use Rattle.policy.specs.declared.refusal.Refusal.{Refusal}
use Rattle.policy.specs.declared.refusal.Refusal.TheVariants as refusal
use Rattle.monitor.specs.declared.Monitor.{Monitor}
use Rattle.monitor.specs.Monitors.{admission}
use Rattle.monitor.specs.Events.{Event, Acts, Grants, Revokes, Closes, Malformed, event_refusals}

-- one of the numbers of the list, or 0
code_below : (n : ℕ) (l : List (Bool × ℕ)) → 0 < n → So (all (λ r. ltb r.1 n) l) → code l < n
code_below n [] z h = z
code_below n (r ∷ l) z h =
    let k = and_split (ltb r.1 n) (all (λ r. ltb r.1 n) l) h in
    go r.0 (so_lt r.1 n k.0) (code_below n l z k.1)
  where
    go : (b : Bool) → r.1 < n → code l < n → cond b r.1 (code l) < n
    go true x y = x
    go false x y = y

pub event-below : (m : Monitor) (e : Event) (short : Bool) → code (event_refusals m e short) < 18
unfolding event_refusals admission
event-below m (Acts u a) short = code_below 18 (event_refusals m (Acts u a) short) (lit< tt) refl
event-below m (Grants u r) short = code_below 18 (event_refusals m (Grants u r) short) (lit< tt) refl
event-below m (Revokes u r) short = code_below 18 (event_refusals m (Revokes u r) short) (lit< tt) refl
event-below m Closes short = code_below 18 (event_refusals m Closes short) (lit< tt) refl
event-below m Malformed short = code_below 18 (event_refusals m Malformed short) (lit< tt) refl

pub above-none : (r : Refusal) → 1 ≤ code_number (code_of r)
above-none refusal.WordCount = omega arith
above-none (refusal.Word p) = omega arith
above-none (refusal.Term p) = omega arith
above-none (refusal.Unit p) = omega arith
above-none refusal.Opening = omega arith
above-none refusal.Text = omega arith
above-none refusal.Counts = omega arith
above-none refusal.Rows = omega arith
above-none refusal.Workflow = omega arith
above-none refusal.Malformed = omega arith
above-none refusal.Full = omega arith
above-none refusal.NotPossible = omega arith
above-none refusal.Closed = omega arith
above-none refusal.NotSatisfied = omega arith
above-none refusal.NotAuthorized = omega arith
above-none refusal.NoTransition = omega arith
above-none refusal.Workspace = omega arith
above-none refusal.Output = omega arith
above-none refusal.Case = omega arith
above-none refusal.Monitor = omega arith
