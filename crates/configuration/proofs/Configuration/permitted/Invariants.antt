-- The loop keeps the users before the next one who are so.
use Rattle.std.proofs.Common.{◌≡◌, map}
use Rattle.soda.specs.Lists.{range}
use Rattle.configuration.specs.Permitted.{gathered, is_permitted}
use Rattle.configuration.proofs.Configuration.permitted.Given as goal

abbrev pub invariant-loop-user : goal.invariant-loop-user
invariant-loop-user l = l.found ≡ gathered (map (is_permitted l.self l.action l.everyone) (range 0 l.user))
