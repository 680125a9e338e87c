-- Its row is that of no action, turned (`Entries`).
use Rattle.std.proofs.Common.{◌<◌, arith}
use Rattle.workspace.proofs.Entries.{empty-entry}
use Rattle.workspace.proofs.tables.empty_set.Goals as goal

pub returns : goal.returns
returns c =
    let a = c.args in
    let row = c.row_of-row in
    let fits : row.result.bits < 18446744073709551616 = omega arith in
    empty-entry a.judge.now.masks a.judge.now.operators.now a.sets.now row.result.bits row.result.right c.turned.result fits c.turned.ensures row.ensures
