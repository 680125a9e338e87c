-- Digit by digit.
use Rattle.workspace.proofs.Walk.{adds-pair}
use Rattle.workspace.proofs.parts.Found.with.Goals as goal

pub returns : goal.returns
returns c = let a = c.args in adds-pair a.part a.rest a.self.ahead a.self.back
