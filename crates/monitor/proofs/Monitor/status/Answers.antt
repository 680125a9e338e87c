-- 15, then what the letter says: it is one of the three.
use Rattle.std.proofs.Common.{◌≡◌, ℕ, refl, sym, ◌∙◌, ne_eqb, true≢false}
use Rattle.std.specs.Prelude.{Result, Ok, Err}
use Rattle.std.specs.Result.{result_or}
use Rattle.std.proofs.Math.Bool.{So}
use Rattle.std.proofs.lemmas.Result.{err_from_is_err_and}
use Rattle.policy.specs.Answers.{answer_number}
use Rattle.policy.specs.declared.refusal.Refusal.TheVariants.{Monitor}
use Rattle.instance.specs.Letters.{is_letter, Reads}
use Rattle.instance.specs.declared.status.Status.{Status}
use Rattle.instance.specs.declared.status.UnknownLetter.{UnknownLetter}
use Rattle.instance.proofs.Lettering.{lettered-is-letter}
use Rattle.monitor.specs.Statuses.{letter_in, status_of}
use Rattle.monitor.proofs.Formed.{formed}
use Rattle.monitor.proofs.Checks.{refusal-number}
use Rattle.monitor.proofs.Order.{checked_formed}
use Rattle.monitor.proofs.Monitor.status.Goals as goal

-- a letter's status has the letter
letter-read : (l : ℕ) → So (is_letter l) → (r : Result Status UnknownLetter) → Reads l r
    → (answer_number (result_or r (Err Monitor)) ≡ 0) × (letter_in (result_or r (Err Monitor)) ≡ l)
letter-read l h (Ok s) e = (refl, e)
letter-read l h (Err x) e = absurd (true≢false (sym h ∙ e.1))

pub returns-in_err-check : goal.returns-in_err-check
unfolding status_of
returns-in_err-check c =
    let p = err_from_is_err_and c.from_residual.result c.from_residual.ensures.1 in
    rw (p.1, p.2) (rw (← c.in_err-check.ensures.number, ne_eqb _ 0 (refusal-number c.in_err-check.field-0.0)))

pub returns : goal.returns
unfolding status_of
returns c =
    let m = c.args.self in
    let l = lettered-is-letter m.instance (formed m (checked_formed m c.in_ok-check.ensures.number)).in_instance.lettered in
    let r = letter-read m.instance.status l c.try_from.result c.try_from.ensures in
    rw (c.or.ensures, r.0, r.1, ← c.in_ok-check.ensures.number)
