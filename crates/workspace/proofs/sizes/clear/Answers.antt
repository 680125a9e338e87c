-- The first words are those that are filled with zero.
use Rattle.workspace.proofs.Entries.{cleared}
use Rattle.workspace.proofs.sizes.clear.Goals as goal

pub returns : goal.returns
returns c = cleared 8192 c.args.workspace.now c.fill.new.self c.requires (c.fill.ensures.after (λ y e. e))
