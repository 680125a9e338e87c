-- The event call gives the number and the monitor, and the status call on that monitor the letter.
use Rattle.std.proofs.Common.{◌≡◌, ◌≤◌, ℕ, List, Result, Ok, Err, length, refl, sym, ap, subst, ◌∙◌, arith, rules}
use Rattle.std.specs.Result.{result_unwrap_or}
use mathlib.Core.Path.{ap₂}
use Rattle.std.proofs.Math.Bool.{So}
use Rattle.policy.specs.Answers.{answer_number}
use Rattle.policy.specs.declared.refusal.Refusal.{Refusal}
use Rattle.monitor.specs.declared.Monitor.{Monitor}
use Rattle.monitor.specs.Monitors.{well_formed}
use Rattle.monitor.specs.Events.{Outcome, outcome, event_code, event_monitor, left_after}
use Rattle.monitor.specs.Statuses.{status_letter, status_of}
use Rattle.monitor.proofs.Preserved.{event_keeps_well_formed}
use Rattle.casefile.specs.Texts.{line_text}
use Rattle.casefile.proofs.Lines.{line_of, line-short}
use Rattle.casefile.proofs.runs.step.Goals as goal

kept : (m : Monitor) (r : Result Monitor Refusal) → result_unwrap_or r m ≡ left_after m r
kept m (Ok l) = refl
kept m (Err k) = refl

-- what the event call gave, and the monitor that it left
module _ (m : Monitor) (w : ℕ) (workspace : List ℕ) (size : length workspace ≡ 8192) (r : Result Monitor Refusal) (after : List ℕ)
    (is : record { code = answer_number r; monitor = left_after m r; workspace = after } ≡ outcome m w workspace)
    (next : Monitor) (taken : next ≡ result_unwrap_or r m) where
  number : answer_number r ≡ event_code m w 8192
  unfolding outcome
  number = ap (λ (x : Outcome). x.code) is ∙ ap (λ (n : ℕ). event_code m w n) size

  same : next ≡ (outcome m w workspace).monitor
  same = taken ∙ kept m r ∙ ap (λ (x : Outcome). x.monitor) is

  left : next ≡ event_monitor m w 8192
  unfolding outcome
  left = same ∙ ap (λ (n : ℕ). event_monitor m w n) size

  formed : length m.instance.actions ≡ 12 → So (well_formed m) → So (well_formed next)
  formed places h = subst (λ (i : Monitor). So (well_formed i)) (sym same) (event_keeps_well_formed m w workspace places h)

  -- the line
  line : (place k letter : ℕ) → k ≡ answer_number r → letter ≡ (status_of next).letter → line_text place k letter ≡ line_of m place w
  unfolding status_of
  line place k letter n e = ap₂ (λ (k l : ℕ). line_text place k l) (n ∙ number) (e ∙ ap (λ (j : Monitor). status_letter j) left)

pub put_line-end-requires : goal.put_line-end-requires
put_line-end-requires c =
    let a = c.args in
    let short : length (line_of a.monitor a.place a.word) ≤ 9 = line-short a.monitor a.place a.word in
    rw (line a.monitor a.word a.workspace.now c.requires.size _ _ c.event-answer.ensures _ c.unwrap_or-next.ensures a.place _ _ c.number_of.ensures c.letter_of.ensures)
    (omega (arith, c.requires.fits))

pub returns : goal.returns
returns c =
    let a = c.args in
    let size = c.requires.size in
    let told = c.event-answer.ensures in
    let taken = c.unwrap_or-next.ensures in
    record {
      same = left a.monitor a.word a.workspace.now size _ _ told _ taken;
      is_formed = formed a.monitor a.word a.workspace.now size _ _ told _ taken (search rules) c.requires.is_formed;
      line = rw (line a.monitor a.word a.workspace.now size _ _ told _ taken a.place _ _ c.number_of.ensures c.letter_of.ensures) at c.put_line-end.ensures;
    }
