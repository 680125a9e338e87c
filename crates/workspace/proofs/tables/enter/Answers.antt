-- What is stored of the row of s and what comes with it are added to the table (`Entries`).
use Rattle.workspace.proofs.Entries.{entered}
use Rattle.workspace.proofs.tables.enter.Goals as goal

pub returns : goal.returns
returns c =
    let row = c.stored_of-row in
    let p = c.requires in
    let a = c.args in
    entered a.judge.now.masks a.judge.now.operators.now a.s a.users a.met a.twin a.sets.now row.result p.1 p.3 row.ensures
