-- Each event adds one to the number of actions exactly when it is an action answered 0, and that number is printed.
use mathlib.Core.Path.{◌≡◌, refl, ap}
use mathlib.Core.Bool.{Bool, true, false, So, ◌&&◌, cond}
use mathlib.Core.List.{List, [], ◌∷◌}
use Prim.Native.Nat.{ℕ, ◌+◌}
use native.Mathlib.Omega.{arith}
use lib.Dec.{eqb}
use lib.ListN.{length}
use borrow.Author.Tests.{le-ltb}
use Rattle.monitor.specs.declared.Monitor.{Monitor}
use Rattle.monitor.specs.Monitors.{open_code, fresh, opened}
use Rattle.monitor.specs.Events.{Event, Acts, Grants, Revokes, Closes, Malformed, event_in, applied, event_code, event_monitor}
use Rattle.monitor.specs.Runs.{Lengths, from, run, final, is_action, taken}
use Rattle.monitor.proofs.Opening.{opened-is-fresh}
use Rattle.casefile.specs.Cases.{case_ok, opening_of, event_words}
use Rattle.casefile.specs.Texts.{limit, run_text, case_text, output}
use Rattle.casefile.specs.Taken.{TakenIsFinal, final_text, PrintedIsFinal}

-- b is whether the event was answered 0
one_more : (m : Monitor) (e : Event) (b : Bool) → (cond b (applied m e) m).instance.taken ≡ m.instance.taken + cond (is_action e && b) 1 0
one_more m (Acts u a) true = refl
one_more m (Acts u a) false = omega arith
one_more m (Grants u r) true = omega arith
one_more m (Grants u r) false = omega arith
one_more m (Revokes u r) true = omega arith
one_more m (Revokes u r) false = omega arith
one_more m Closes true = omega arith
one_more m Closes false = omega arith
one_more m Malformed true = omega arith
one_more m Malformed false = omega arith

all-taken : (m : Monitor) (ws : List ℕ) (n : Lengths) → m.instance.taken + taken (run m ws n) ≡ (final m (run m ws n)).instance.taken
unfolding run
all-taken m [] n = omega arith
all-taken m (w ∷ ws) n =
    let more = one_more m (event_in m w) (eqb (event_code m w (n 0)) 0) in
    let rest = all-taken (event_monitor m w (n 0)) ws (from 1 n) in
    omega (arith, more, rest)

pub taken-is-final : TakenIsFinal
taken-is-final m ws n none = let e = all-taken m ws n in omega arith

-- the text of a case whose opening is accepted
text-is-final : (b : List ℕ) → So (case_ok b) → open_code (opening_of b) ≡ 0 → case_text b ≡ final_text b
unfolding fresh case_text run_text
text-is-final b ok opens =
    let none : (opened (opening_of b)).instance.taken ≡ 0 = ap (λ (m : Monitor). m.instance.taken) (opened-is-fresh (opening_of b) opens) in
    rw (ok, opens, taken-is-final (opened (opening_of b)) (event_words b) (λ k. 8192) none)

pub printed-is-final : PrintedIsFinal
unfolding output
printed-is-final b out ok opens room = rw (le-ltb (length out) limit room, text-is-final b ok opens)
