-- The number, the length and the place of the conversion's answer.
use Rattle.std.proofs.Common.{length}
use Rattle.text.specs.Writing.{text_of, write_code}
use Rattle.embed.proofs.Conversions.{lent}
use Rattle.embed.proofs.oskhrein_write_text.Goals as goal

pub returns : goal.returns
returns c =
    let a = c.args in
    let e = c.write_text-converted.ensures in
    let l = lent a.users a.roles a.words.now (length (text_of a.words.now))
    (write_code a.users a.roles a.words.now (length a.out.now)) _ _ _ _ _ _ e.value c.lend_length.ensures in
    (l.0, l.1, l.2, e.out_after)
