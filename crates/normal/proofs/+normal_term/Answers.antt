-- By the first word's sides, a law of `Normalising` says what the calls are handed and that what they leave is the normal form.
use Rattle.std.proofs.Common.{◌+◌, arith}
use Rattle.soda.proofs.Lists.{from-length}
use Rattle.normal.proofs.Normalising.{no_side, one_side, two-sides, one_word, inner, over_word, first_side, second_side, both-sides, over_both}
use Rattle.normal.proofs.+normal_term.Goals as goal

-- ── one side or none ──
pub returns-in-0-clause-written : goal.returns-in-0-clause-written
returns-in-0-clause-written t c = λ s. one_word c.args.words.now c.args.out.now s (no_side s c.kind_of.ensures c.sides_of.ensures c.in-0.is)

pub normal_term-requires : goal.normal_term-requires
normal_term-requires t c = (
  omega (arith, c.decreases, from-length 1 c.args.words.now),
  inner c.args.words.now c.args.out.now c.requires (one_side c.requires c.kind_of.ensures c.sides_of.ensures c.in-1.is),
)

pub returns-in-1-clause-written : goal.returns-in-1-clause-written
returns-in-1-clause-written t c = λ s. over_word c.args.words.now c.args.out.now s (one_side s c.kind_of.ensures c.sides_of.ensures c.in-1.is) c.normal_term.ensures.written

-- ── two sides ──
pub normal_term-n-requires : goal.normal_term-n-requires
normal_term-n-requires t c = (
  omega (arith, c.decreases, from-length 1 c.args.words.now),
  first_side c.args.words.now c.args.out.now c.requires (two-sides c.requires c.kind_of.ensures c.sides_of.ensures (omega arith)),
)

pub normal_term-m-requires : goal.normal_term-m-requires
normal_term-m-requires t c = (
  omega (arith, c.decreases, from-length (1 + c.normal_term-n.result) c.args.words.now),
  second_side c.args.words.now c.args.out.now c.requires (two-sides c.requires c.kind_of.ensures c.sides_of.ensures (omega arith))
      c.normal_term-n.ensures.written,
)

pub merge-requires : goal.merge-requires
merge-requires t c =
    both-sides c.args.words.now c.args.out.now c.requires (two-sides c.requires c.kind_of.ensures c.sides_of.ensures (omega arith))
    c.normal_term-n.ensures.written c.normal_term-m.ensures.written

pub returns-in_default-clause-written : goal.returns-in_default-clause-written
returns-in_default-clause-written t c = λ s.
    over_both c.args.words.now c.args.out.now s (two-sides s c.kind_of.ensures c.sides_of.ensures (omega arith))
    c.normal_term-n.ensures.written c.normal_term-m.ensures.written c.merge.ensures
