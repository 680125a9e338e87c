-- The loop keeps what is still to be put: the users from `user` on, with the sign before the next of them.
use Rattle.text.specs.Texts.{set_text}
use Rattle.text.proofs.Putting.{Begun}
use Rattle.printer.proofs.Listing.{listed_from}
use Rattle.printer.proofs.sets.put_set.Given as goal

abbrev pub invariant-loop-user : goal.invariant-loop-user
invariant-loop-user l = Begun (set_text l.mask) l.initial.out l.n l.out (listed_from l.mask l.sign l.user)
