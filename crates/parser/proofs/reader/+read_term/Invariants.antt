-- Each side's text is shorter, and the three read the same text in this order.
use Rattle.std.proofs.Common.{◌+◌, ◌*◌, length}
use Rattle.parser.proofs.reader.+read_term.Given as goal

abbrev pub decreases-read_term : goal.decreases-read_term
decreases-read_term l = 3 * length l.text.now + 2

abbrev pub decreases-read_span : goal.decreases-read_span
decreases-read_span l = 3 * length l.text.now + 1

abbrev pub decreases-read_sides : goal.decreases-read_sides
decreases-read_sides l = 3 * length l.text.now
