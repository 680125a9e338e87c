-- The mask kept beside a monitor (document 02, E1: "The desk program keeps the mask beside each sheet and asks anew after every accepted
-- event; show that a refused one leaves it right").
use Rattle.std.specs.Prelude.{◌≡◌, cond, List, [], ◌∷◌, ℕ, ◌≤◌, eqb, length}
use Rattle.monitor.specs.declared.Monitor.{Monitor}
use Rattle.monitor.specs.Enabled.{Enabled, enabled_in, enabled_of}
use Rattle.monitor.specs.Runs.{Lengths, Enough, from, Step, run, final}

-- what a program has for action a after a run: what it had, or what it asked for after the last accepted event; each call has a workspace
-- of its own
abbrev pub kept : ℕ → Enabled → List Step → Lengths → Enabled
kept a answer [] n = answer
kept a answer (s ∷ l) n = kept a (cond (eqb s.code 0) (enabled_in s.left (n 0) a) answer) l (from 1 n)

-- That is what the call answers, by the definition that its contract cites.
abbrev pub AskIsCall : Type 0
AskIsCall = (m : Monitor) (a : ℕ) (before : List ℕ) → (enabled_of m a before).answer ≡ enabled_in m (length before) a

-- Whatever the action's number, the words and the workspaces of the event calls, a program that asks at the start and then so, each time
-- with a workspace that is long enough, always has what a call would answer now.
abbrev pub KeptIsNow : Type 0
KeptIsNow =
    (m : Monitor) (a : ℕ) (words : List ℕ) (n asks : Lengths) (now : ℕ) → Enough asks → 8192 ≤ now
    → kept a (enabled_in m (asks 0) a) (run m words n) (from 1 asks) ≡ enabled_in (final m (run m words n)) now a
