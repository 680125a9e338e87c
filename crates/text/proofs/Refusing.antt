-- What a refusal answers, and that it leaves the output.
use mathlib.Core.Path.{refl, sym, ◌∙◌}
use lib.ListN.{length}
use borrow.Author.Tests.{ne_eqb}
use Rattle.soda.specs.Words.{encode}
use Rattle.text.specs.Reading.{word_refusals, read_code, read_out}
use Rattle.text.specs.Writing.{text_of, write_refusals, write_code, write_out}
use Rattle.text.specs.Laws.{ReadTellsFault, WriteTellsFault, ReadRefusalKeeps, WriteRefusalKeeps}
use Rattle.text.proofs.Converting.{refused}
use Rattle.text.proofs.Opened.{term_of_text, read_is-words}

pub read_tells_fault : ReadTellsFault
unfolding word_refusals
read_tells_fault users roles φ c out d h e =
    sym ((refused users roles (encode φ) (encode φ) out c e).answers ∙ rw (read_is-words users roles φ (length out) d h, term_of_text φ d) refl)

pub write_tells_fault : WriteTellsFault
unfolding write_refusals
write_tells_fault users roles ws c out e = sym (refused users roles ws (text_of ws) out c e).answers

pub read_refusal_keeps : ReadRefusalKeeps
unfolding read_out
read_refusal_keeps users roles t out n = rw (ne_eqb (read_code users roles t (length out)) 0 n)

pub write_refusal_keeps : WriteRefusalKeeps
unfolding write_out
write_refusal_keeps users roles ws out n = rw (ne_eqb (write_code users roles ws (length out)) 0 n)
