-- The word's kind gets its bit.
use Rattle.std.proofs.Common.{◌≡◌, ◌^◌, ap, ◌∙◌, arith}
use Rattle.policy.specs.KindsRead.{read_kind}
use Rattle.policy.proofs.Layouts.{one_shl}
use Rattle.shape.specs.Private.{with_of}
use Rattle.shape.proofs.Kinded.{step}
use Rattle.shape.proofs.kind_masks.Goals as goal

pub loop-i-preserved : goal.loop-i-preserved
loop-i-preserved c =
    let at = c.loop-i in
    let K = read_kind c.of.result in
    let e : c.with-masks.result ≡ with_of at.masks K (2 ^ at.i) =
    c.with-masks.ensures ∙ ap (with_of at.masks K) (one_shl at.i (omega (arith, c.requires))) in
    rw e (step c.args.words.now at.i c.requires c.loop-i-test.true K c.of.ensures at.invariant)
