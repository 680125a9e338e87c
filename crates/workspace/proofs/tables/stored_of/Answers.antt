-- What stands for a twin is what is kept of the row (`Exchange`), and so is the row of the parts, turned.
use Rattle.std.proofs.Common.{◌<◌, arith}
use Rattle.workspace.proofs.Entries.{stored_twin, stored_row}
use Rattle.workspace.proofs.tables.stored_of.Goals as goal

pub returns-then-twin-s : goal.returns-then-twin-s
returns-then-twin-s c =
    let a = c.args in
    stored_twin a.judge.now.masks a.judge.now.operators.now a.sets.now a.met a.s a.twin c.if-twin-s.true

pub returns : goal.returns
returns c =
    let a = c.args in
    let row = c.row_of-row in
    let fits : row.result.bits < 18446744073709551616 = omega arith in
    stored_row a.judge.now.masks a.judge.now.operators.now a.sets.now a.met a.s a.twin row.result.bits row.result.right c.turned.result fits c.turned.ensures row.ensures
