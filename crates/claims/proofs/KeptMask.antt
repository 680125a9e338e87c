-- An accepted event's mask is asked for; a refused event leaves the monitor, and so the mask. Among workspaces that are long enough the
-- length plays no part.
use mathlib.Core.Path.{◌≡◌, refl, sym, ap, ◌∙◌}
use mathlib.Core.Bool.{Bool, true, false, not, ◌&&◌, cond}
use mathlib.Core.List.{List, [], ◌∷◌, map}
use Prim.Native.Nat.{ℕ, ◌/◌, ◌^◌, ◌≤◌}
use lib.Dec.{eqb}
use borrow.Author.Tests.{le-ltb}
use Rattle.soda.specs.Bits.{number}
use Rattle.soda.specs.Lists.{range}
use Rattle.soda.proofs.Bools.{by_test}
use Rattle.policy.specs.Kinds.{CLOSE}
use Rattle.policy.specs.Refusals.{Refusals, code}
use Rattle.monitor.specs.declared.Monitor.{Monitor}
use Rattle.monitor.specs.Monitors.{admission}
use Rattle.monitor.specs.Events.{event_in, applied, event_refusals, event_code, event_monitor}
use Rattle.monitor.specs.Enabled.{Enabled, action_word, enabled_mask, answered, enabled_in, enabled_of}
use Rattle.monitor.specs.Runs.{Lengths, Enough, from, run, final}
use Rattle.claims.specs.KeptMask.{kept, AskIsCall, KeptIsNow}

pub ask_is-call : AskIsCall
unfolding enabled_of
ask_is-call m a before = refl

-- the answer, by whether the workspace is too short for an action
by_length : Monitor → ℕ → Bool → Enabled
by_length m a short = answered (code (admission m short)) (number (map (λ u. eqb (code (asked u)) 0) (range 0 m.configuration.users)))
  where
    asked : ℕ → Refusals
    asked u = event_refusals m (event_in m (action_word u a)) (not (eqb (action_word u a / 2 ^ 24) CLOSE) && short)

long_alike : (m : Monitor) (n k a : ℕ) → 8192 ≤ n → 8192 ≤ k → enabled_in m n a ≡ enabled_in m k a
unfolding enabled_mask by_length
long_alike m n k a h j = ap (by_length m a) (le-ltb n 8192 h ∙ sym (le-ltb k 8192 j))

module _ (a now : ℕ) (long : 8192 ≤ now) where
  stays : (m : Monitor) (words : List ℕ) (n asks : Lengths) (had : Enabled) → Enough asks → had ≡ enabled_in m now a
      → kept a had (run m words n) asks ≡ enabled_in (final m (run m words n)) now a
  unfolding run
  stays m [] n asks had enough e = e
  stays m (w ∷ ws) n asks had enough e = stays (event_monitor m w (n 0)) ws (from 1 n) (from 1 asks) _ (λ k. enough _) (by_test (eqb (event_code m w (n 0)) 0) asked refused)
    where
      next : Enabled
      next = cond (eqb (event_code m w (n 0)) 0) (enabled_in (event_monitor m w (n 0)) (asks 0) a) had

      asked : eqb (event_code m w (n 0)) 0 ≡ true → next ≡ enabled_in (event_monitor m w (n 0)) now a
      asked t = ap (λ b. cond b (enabled_in (event_monitor m w (n 0)) (asks 0) a) had) t ∙ long_alike (event_monitor m w (n 0)) (asks 0) now a (enough 0) long

      refused : eqb (event_code m w (n 0)) 0 ≡ false → next ≡ enabled_in (event_monitor m w (n 0)) now a
      refused f = ap (λ b. cond b (enabled_in (event_monitor m w (n 0)) (asks 0) a) had) f ∙ e ∙ sym (ap (λ b. enabled_in (cond b (applied m (event_in m w)) m) now a) f)

pub kept-is_now : KeptIsNow
kept-is_now m a words n asks now enough long = stays a now long m words n (from 1 asks) (enabled_in m (asks 0) a) (λ k. enough _) (long_alike m (asks 0) now a (enough 0) long)
