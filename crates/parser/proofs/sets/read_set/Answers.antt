-- What is still to be read decides (`Remains`); behind a number its sign does (`Signed`).
use Rattle.std.proofs.Common.{arith}
use Rattle.parser.proofs.Setting.{all_remains, set_no_number, number_small, set-low-number, next_below, number-signed, set_ended, set_closed, set_again, set_other}
use Rattle.parser.proofs.sets.read_set.Goals as goal

pub loop-number-init : goal.loop-number-init
loop-number-init c = record {
  inside = c.starts_with.ensures.bound c.if-not-starts_with.false;
  low = omega arith;
  below = omega arith;
  remains = all_remains c.args.text.now c.starts_with.ensures.value c.if-not-starts_with.false;
}

pub returns-in_err-number : goal.returns-in_err-number
returns-in_err-number c = rw c.from_residual.ensures (set_no_number c.loop-number.invariant.remains c.in_err-number.ensures)

pub returns-then-number-low : goal.returns-then-number-low
returns-then-number-low c =
    let i = c.loop-number.invariant in
    set-low-number i.remains i.inside c.in_ok-number.number c.in_ok-number.ensures c.if-number-low.true

pub returns-in_err-sign : goal.returns-in_err-sign
returns-in_err-sign c =
    let i = c.loop-number.invariant in
    let s = number-signed i.remains i.inside c.in_ok-number.number c.in_ok-number.ensures i.below c.if-number-low.false in
    rw c.from_residual-in_err-sign.ensures (set_ended s c.in_err-sign.ensures.lookup.3)

pub returns-in-125 : goal.returns-in-125
returns-in-125 c =
    let i = c.loop-number.invariant in
    let s = number-signed i.remains i.inside c.in_ok-number.number c.in_ok-number.ensures i.below c.if-number-low.false in
    let l = c.in_ok-sign.ensures.lookup.3 in
    rw c.word.ensures (set_closed s l.0 (l.1 0) c.in-125.is)

pub loop-number-preserved : goal.loop-number-preserved
loop-number-preserved c =
    let i = c.loop-number.invariant in
    let s = number-signed i.remains i.inside c.in_ok-number.number c.in_ok-number.ensures i.below c.if-number-low.false in
    let l = c.in_ok-sign.ensures.lookup.3 in
    record {
      inside = omega (arith, l.0);
      low = omega (arith, number_small i.remains i.inside c.in_ok-number.number c.in_ok-number.ensures);
      below = next_below i.remains i.inside c.in_ok-number.number c.in_ok-number.ensures i.below c.if-number-low.false;
      remains = set_again s l.0 (l.1 0) c.in-44.is;
    }

pub returns-in_default : goal.returns-in_default
returns-in_default c =
    let i = c.loop-number.invariant in
    let s = number-signed i.remains i.inside c.in_ok-number.number c.in_ok-number.ensures i.below c.if-number-low.false in
    let l = c.in_ok-sign.ensures.lookup.3 in
    set_other s l.0 (l.1 0) (λ e. omega arith) (λ e. omega arith)
