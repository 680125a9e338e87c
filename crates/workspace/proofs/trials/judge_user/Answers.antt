-- A user alike one who is tried is judged as that one; else the user is tried (`Trying`).
use Rattle.workspace.proofs.Trying.{judges_alike}
use Rattle.workspace.proofs.trials.judge_user.Goals as goal

pub returns-then-like-u : goal.returns-then-like-u
returns-then-like-u c =
    let a = c.args in
    judges_alike _ _ a.before.now a.met.now a.acted a.tried a.u a.sets.now c.has_user.result c.like_of-like.result
    c.like_of-like.ensures c.if-like-u.true c.has_user.ensures
