-- The part's words where they count.
use Rattle.workspace.proofs.Walk.{adds-apart}
use Rattle.workspace.proofs.parts.with_apart.Goals as goal

pub returns : goal.returns
returns c = let a = c.args in adds-apart a.part a.rest a.joint a.anyone a.found _ c.counting.ensures
