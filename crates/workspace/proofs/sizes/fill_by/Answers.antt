-- The shape gives the masks and the operators, and the cleared workspace gets the rows of all sets.
use Rattle.std.proofs.Common.{◌≤◌, ◌∙◌, length, rules, arith}
use Rattle.workspace.proofs.Columns.{ascends, suited, whole_is, whole}
use Rattle.workspace.proofs.sizes.fill_by.Goals as goal

pub operators-count-requires : goal.operators-count-requires
operators-count-requires c = (ascends c.requires.0, omega arith)

pub returns : goal.returns
returns c w =
    let a = c.args in
    let taken = a.taken.now in
    let p = c.requires in
    let listed = c.operators-count in
    let short : listed.result ≤ length listed.new.ops = search rules in
    let of-policy = suited w c.masks_of-masks.result c.masks_of-masks.ensures listed.new.ops listed.result short listed.ensures in
    let done = c.fill_sets.ensures in (
      whole_is w.term taken.actions.now a.workspace.now c.fill_sets.new.workspace taken.few p.1
          (c.fill_sets.auto.workspace ∙ c.clear.auto.workspace)
          (whole w.term taken.actions.now a.workspace.now c.clear.new.workspace c.fill_sets.new.workspace taken.few c.clear.ensures done.0 of-policy),
      done.1 w.term of-policy,
    )
