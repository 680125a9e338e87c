-- A shift is a quotient, a mask of ones a remainder.
use Rattle.std.proofs.Common.{◌/◌, ◌%◌, ◌^◌, sym, ◌∙◌, eq-eqb, ne_eqb}
use lib.Bits.{and_mask}
use Rattle.monitor.specs.Events.{read_event}
use Rattle.monitor.proofs.events.read_event.Goals as goal

pub returns-then-word-ne0 : goal.returns-then-word-ne0
unfolding read_event
returns-then-word-ne0 c =
    let w = c.args.word in
    simp (ne_eqb (w / 2 ^ 16 % 2 ^ 8) 0 (λ z. c.if-word-ne0.true (and_mask (w / 2 ^ 16) 8 ∙ z)))

pub returns : goal.returns
unfolding read_event
returns c =
    let w = c.args.word in
    simp (eq-eqb (w / 2 ^ 16 % 2 ^ 8) 0 (sym (and_mask (w / 2 ^ 16) 8) ∙ c.if-word-ne0.false))
    (simp (and_mask (w / 2 ^ 8) 8, and_mask w 8) at c.event_of.ensures)
