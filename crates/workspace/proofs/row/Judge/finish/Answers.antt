-- A turn completes the word of the last operator that is left (`Complete`).
use Rattle.std.proofs.Common.{rules, ℕ, ◌≡◌, ◌*◌, ◌/◌, ◌%◌, ◌^◌, bit_and, length, ap, ◌∙◌, sym, subst, arith, shl_exact}
use lib.Bits.{and_mask}
use Rattle.workspace.proofs.Complete.{Walked, walk_begin, walk_step, walk_end, left_all, last_left}
use Rattle.workspace.proofs.row.Judge.finish.Goals as goal

word-is : (x : ℕ) → 4294967297 * 2 ^ bit_and x 31 % 2 ^ 64 ≡ 4294967297 * 2 ^ (x % 32)
word-is x = ap (λ i. 4294967297 * 2 ^ i % 2 ^ 64) (and_mask x 5) ∙ shl_exact {a = 4294967297} 33 (x % 32) 64 (search rules) (omega arith)

pub loop-x-init : goal.loop-x-init
loop-x-init c =
    let all : c.into_iter-x-iterator.result.iter.rest.now ≡ c.args.self.now.operators.now = search rules in
    (left_all _ _ all, λ places a l. subst (Walked _ _ _ places _ _ _) (ap length (sym all)) (walk_begin l))

pub loop-x-preserved : goal.loop-x-preserved
loop-x-preserved c =
    let at = c.loop-x in
    let last = last_left _ _ _ _ at.invariant.0 c.in-Some.ensures.steps in (
      last.left,
      λ places a l. subst (Walked _ _ _ places _ _ _) last.less
          (walk_step _ _ _ places _ a at.bits at.at_right (length at.x-iterator.iter.rest.now) _ _ last.some (word-is _ ∙ ap (λ x. 4294967297 * 2 ^ (x % 32)) last.is) (ap (λ x. x / 32) last.is) (at.invariant.1 places a l)),
    )

pub returns : goal.returns
returns c places a l = walk_end _ _ _ _ _ a _ _ _ (omega (arith, c.in-None.ensures.steps.0)) (c.loop-x.invariant.1 places a l)
