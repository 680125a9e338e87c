-- The parts behind the events lie within the bytes.
use Rattle.casefile.proofs.Placing.{behind_placed}
use Rattle.casefile.proofs.cases.Case.open.Goals as goal

pub within-requires : goal.within-requires
within-requires c = (behind_placed c.args.bytes.now c.args.self c.requires _ _ c.in-Some.is).0

pub within-requires-in-Some : goal.within-requires-in-Some
within-requires-in-Some c = (behind_placed c.args.bytes.now c.args.self c.requires _ _ c.in-Some.is).1
