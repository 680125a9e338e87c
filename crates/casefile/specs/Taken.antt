-- What `taken n` says (document 01): the actions answered 0, which is also the number of actions in the final monitor.
use Rattle.std.specs.Prelude.{◌≡◌, List, ◌++◌, ℕ, ◌≤◌, length, drop}
use Rattle.std.proofs.Math.Bool.{So}
use Rattle.policy.specs.Codes.{ACCEPTED}
use Rattle.monitor.specs.declared.Monitor.{Monitor}
use Rattle.monitor.specs.Monitors.{open_code, opened}
use Rattle.monitor.specs.Runs.{Lengths, Step, run, final, taken}
use Rattle.casefile.specs.Cases.{case_ok, opening_of, event_words}
use Rattle.casefile.specs.Texts.{taken_text, case_run, step_lines, limit, output}

-- An opened monitor has no action.
abbrev pub TakenIsFinal : Type 0
TakenIsFinal = (m : Monitor) (ws : List ℕ) (n : Lengths) → m.instance.taken ≡ 0 → taken (run m ws n) ≡ (final m (run m ws n)).instance.taken

-- the run of a case, its lines and `taken n` with that number
abbrev pub steps_of : List ℕ → List Step
steps_of b = case_run (opened (opening_of b)) (event_words b)

abbrev pub final_text : List ℕ → List ℕ
final_text b = step_lines 1 (steps_of b) ++ taken_text (final (opened (opening_of b)) (steps_of b)).instance.taken

-- This is what is printed of a case whose opening is accepted.
abbrev pub PrintedIsFinal : Type 0
PrintedIsFinal =
    (b out : List ℕ) → So (case_ok b) → open_code (opening_of b) ≡ ACCEPTED → limit ≤ length out
    → output b out ≡ final_text b ++ drop (length (final_text b)) out
