-- By which first operand is the smaller and whether its chain goes on, a law of `Merging` says that the new words are the merged chain.
use Rattle.std.proofs.Common.{◌+◌, arith, length-set}
use Rattle.soda.proofs.Lists.{from-length}
use Rattle.normal.proofs.Merging.{left-shorter, left_on, left_again, left_last, right_on, right_again, right_last}
use Rattle.normal.proofs.+merge.Goals as goal

-- ── the first operand of a is the smaller ──
pub merge-requires : goal.merge-requires
merge-requires t c = (
  omega (arith, c.decreases, left-shorter c.args.op c.args.a.now c.args.out.now c.first_operand-operand.ensures.operand c.copy.ensures c.requires),
  left_on c.args.op c.args.a.now c.args.out.now c.first_operand-operand.ensures.operand c.copy.ensures c.if-a-op.true c.requires,
)

pub returns-then-a-op : goal.returns-then-a-op
returns-then-a-op t c =
    left_again c.args.op c.args.a.now c.args.out.now c.first_operand-operand.ensures.operand c.copy.ensures
    c.le.ensures c.if-le.true c.if-a-op.true c.merge.ensures

pub returns-else-a-op : goal.returns-else-a-op
returns-else-a-op t c =
    left_last c.args.op c.args.a.now c.args.out.now c.first_operand-operand.ensures.operand c.copy.ensures
    c.le.ensures c.if-le.true c.if-a-op.false

-- ── the other is the smaller ──
pub merge-requires-then-gap-from : goal.merge-requires-then-gap-from
merge-requires-then-gap-from t c = (
  omega (arith, c.decreases, from-length (1 + c.words_in-count.result) c.pull.new.out, length-set c.args.out.now 0 c.args.op),
  right_on c.args.op c.args.a.now c.args.out.now c.words_in-count.ensures.count c.pull.ensures c.if-gap-from.true c.requires,
)

pub returns-then-gap-from : goal.returns-then-gap-from
returns-then-gap-from t c =
    right_again c.args.op c.args.a.now c.args.out.now c.words_in-count.ensures.count c.pull.ensures c.first_operand-operand.ensures.operand
    c.le.ensures c.if-le.false c.if-gap-from.true c.merge-then-gap-from.ensures

pub returns-else-gap-from : goal.returns-else-gap-from
returns-else-gap-from t c =
    right_last c.args.op c.args.a.now c.args.out.now c.words_in-count.ensures.count c.pull.ensures c.first_operand-operand.ensures.operand
    c.le.ensures c.if-le.false c.if-gap-from.false c.copy-else-gap-from.ensures
