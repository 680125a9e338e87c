-- The measure is the length of the words.
use Rattle.std.proofs.Common.{length}
use Rattle.printer.proofs.writer.+put_term.Given as goal

abbrev pub decreases-put_term : goal.decreases-put_term
decreases-put_term l = length l.words.now
