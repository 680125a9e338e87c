-- A turn enters the word before those that are done.
use Rattle.std.proofs.Common.{◌≡◌, ◌+◌, ◌-◌, ◌∙◌, cond, get_or, eqb, ne_eqb, ap, arith}
use Rattle.policy.specs.Words.{sides}
use Rattle.shape.proofs.Ends.{begin, step, finished}
use Rattle.shape.proofs.rights.Goals as goal
use Rattle.shape.proofs.rights.Goals.{then-sides-eq2, else-sides-eq2, then-sides-eq0, else-sides-eq0}

pub loop-i-init : goal.loop-i-init
loop-i-init c = (omega arith, begin _ c.requires)

pub loop-i-preserved : goal.loop-i-preserved
loop-i-preserved c =
    let at = c.loop-i in
    let n = c.sides_of-sides.result in
    let up : at.i - 1 + 1 ≡ at.i = omega arith in
    let side-is : c.if-sides-eq2.side ≡ cond (eqb n 2) (get_or at.end at.i 0) at.i =
    elim c.if-sides-eq2.branch [
      | then-sides-eq2 w ↦ rw w.if-sides-eq2.true (rw up at w.side-is)
      | else-sides-eq2 w ↦ rw (ne_eqb n 2 w.if-sides-eq2.false) (omega arith)
    ] in
    let end_is : c.if-sides-eq0.end ≡ cond (eqb n 0) at.i (get_or at.end c.if-sides-eq2.side 0) =
    elim c.if-sides-eq0.branch [
      | then-sides-eq0 w ↦ rw w.if-sides-eq0.true (omega arith)
      | else-sides-eq0 w ↦ rw (ne_eqb n 0 w.if-sides-eq0.false) w.end-is
    ] in (
      omega arith,
      step c.args.words.now at.right at.end at.i (at.i - 1) n c.if-sides-eq2.side c.if-sides-eq0.end
          c.requires (omega arith) (omega arith) at.invariant.1 (c.sides_of-sides.ensures ∙ ap sides c.kind_of.ensures) side-is end_is,
    )

pub returns : goal.returns
returns c =
    let at = c.loop-i in
    let z : at.i ≡ 0 = omega arith in
    finished c.args.words.now at.right at.end c.requires (rw z at at.invariant.1)
