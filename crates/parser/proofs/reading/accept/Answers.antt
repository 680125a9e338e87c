-- The reader's answer decides: a refusal is passed on, and an accepted policy's words are copied where there is room.
use Rattle.std.proofs.Common.{◌≡◌, ℕ, List, length, sym}
use Rattle.std.proofs.lemmas.Result.{err_from_is_err_and}
use Rattle.policy.specs.Refusals.{code}
use Rattle.text.specs.Reading.{Converted, word_refusals, converted, laid}
use Rattle.text.proofs.Converting.{Converts, refused, no_room, written}
use Rattle.parser.proofs.reading.accept.Goals as goal

module _ (users roles : ℕ) (ws out : List ℕ) where
  as_asked : {r : Converted} {end : List ℕ} → Converts users roles ws ws out r end
      → let k = code (word_refusals users roles ws (length out)) in (r ≡ converted users roles ws (length ws) k) × (end ≡ laid k ws out)
  unfolding word_refusals
  as_asked q = (q.answers, q.leaves)

pub returns-in_err-read : goal.returns-in_err-read
returns-in_err-read c =
    let a = c.args in
    let q = as_asked a.users a.roles a.words.now a.out.now (refused a.users a.roles a.words.now a.words.now a.out.now _ (sym c.in_err-read.ensures)) in
    let p = err_from_is_err_and c.from_residual.result c.from_residual.ensures.1 in
    record { value = rw (p.1, p.2) q.0; out_after = q.1 }

-- ── an accepted policy ──
pub returns-then-out-words : goal.returns-then-out-words
returns-then-out-words c =
    let a = c.args in
    let q = as_asked a.users a.roles a.words.now a.out.now
    (no_room a.users a.roles a.words.now a.words.now a.out.now _ _ (sym c.in_ok-read.ensures) c.if-out-words.true) in
    record { value = q.0; out_after = q.1 }

pub returns : goal.returns
returns c =
    let a = c.args in
    let q = as_asked a.users a.roles a.words.now a.out.now
    (written a.users a.roles a.words.now a.words.now a.out.now _ _ (sym c.in_ok-read.ensures) c.if-out-words.false) in
    record { value = q.0; out_after = rw c.copy_from_slice.ensures.after q.1 }
