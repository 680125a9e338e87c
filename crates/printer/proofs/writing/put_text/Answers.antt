-- The opening bytes are copied, and the term's text is put behind them.
use Rattle.text.proofs.Putting.{all-put}
use Rattle.printer.proofs.Spelling.{opening-put, term-put}
use Rattle.printer.proofs.writing.put_text.Goals as goal

pub returns : goal.returns
returns c = λ s.
    all-put
    (term-put c.args.words.now c.args.out.now s
    (opening-put c.args.words.now c.args.out.now s c.copy-n.ensures) c.put_term-t.ensures.value)
