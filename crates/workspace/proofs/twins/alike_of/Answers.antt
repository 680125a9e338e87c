-- One more place, where the action there is alike.
use Rattle.std.proofs.Common.{◌+◌, bit_or, sym, ◌∙◌, subst, arith}
use Rattle.soda.proofs.Bits.{one_shl}
use Rattle.workspace.proofs.Exchange.{Finding, alike_is, find_take, find_skip}
use Rattle.workspace.proofs.twins.alike_of.Goals.{then-eq, else-eq}
use Rattle.workspace.proofs.twins.alike_of.Goals as goal

pub loop-k-preserved : goal.loop-k-preserved
loop-k-preserved c =
    let a = c.args in
    let at = c.loop-k in
    elim c.if-eq.branch [
      | then-eq w ↦ subst (Finding a.before.now a.action (at.k + 1)) (sym w.alike-is)
          (subst (λ n. Finding a.before.now a.action (at.k + 1) (bit_or at.alike n)) (sym (one_shl 64 at.k (omega arith)))
          (find_take a.before.now a.action at.k at.alike at.invariant (alike_is _ _ (sym c.eq.ensures ∙ w.if-eq.true))))
      | else-eq w ↦ subst (Finding a.before.now a.action (at.k + 1)) (sym w.alike-is) (find_skip a.before.now a.action at.k at.alike at.invariant)
    ]
