-- The sets with the tried action are added behind those that stand, and the last of them is read (`Trying`).
use Rattle.workspace.proofs.Trying.{one-tried}
use Rattle.workspace.proofs.trials.try_action.Goals as goal

pub returns : goal.returns
returns c = let a = c.args in one-tried _ _ a.before.now a.action a.sets.now c.add.new.sets c.is_possible.result c.add.ensures c.is_possible.ensures
