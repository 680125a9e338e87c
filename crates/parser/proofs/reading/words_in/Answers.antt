-- What is read of the text as a whole.
use Rattle.parser.proofs.Wholes.{whole_none, whole_other, whole_term}
use Rattle.parser.proofs.reading.words_in.Goals as goal

pub returns-in_err-term : goal.returns-in_err-term
returns-in_err-term c =
    rw c.from_residual.ensures (whole_none c.args.text.now c.args.words.now c.read_term.new.out c.requires c.in_err-term.ensures.value)

pub returns-then-term-text : goal.returns-then-term-text
returns-then-term-text c =
    whole_other c.args.text.now c.args.words.now c.read_term.new.out c.requires c.in_ok-term.term c.in_ok-term.ensures.value c.if-term-text.true

pub returns : goal.returns
returns c = whole_term c.args.text.now c.args.words.now c.read_term.new.out c.requires c.in_ok-term.term c.in_ok-term.ensures.value c.if-term-text.false
