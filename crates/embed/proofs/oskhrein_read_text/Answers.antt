-- The number, the length and the place of the conversion's answer.
use Rattle.std.proofs.Common.{length}
use Rattle.text.specs.Reading.{term_of, words_of, read_code}
use Rattle.embed.proofs.Conversions.{lent}
use Rattle.embed.proofs.oskhrein_read_text.Goals as goal

pub returns : goal.returns
returns c =
    let a = c.args in
    let e = c.read_text-converted.ensures in
    let l = lent a.users a.roles (words_of (term_of a.text.now)) (length (words_of (term_of a.text.now)))
    (read_code a.users a.roles a.text.now (length a.out.now)) _ _ _ _ _ _ e.value c.lend_length.ensures in
    (l.0, l.1, l.2, e.out_after)
