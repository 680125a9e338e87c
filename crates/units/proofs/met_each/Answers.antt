-- The loop lays out what each user meets, one more at each turn.
use Rattle.std.proofs.Common.{◌∙◌, arith, length}
use borrow.Author.Tests.{le-leb, lt-leb}
use Rattle.soda.proofs.Lists.{copied_all}
use Rattle.units.specs.Units.{met_each}
use Rattle.units.proofs.Each.{mets, mets_length, laid}
use Rattle.units.proofs.met_each.Goals as goal

pub returns-then-rows-gt16 : goal.returns-then-rows-gt16
unfolding met_each
returns-then-rows-gt16 c = rw (lt-leb (length c.args.rows.now) 16 c.if-rows-gt16.true)

pub loop-user-preserved : goal.loop-user-preserved
loop-user-preserved c =
    let a = c.args in
    let l = c.loop-user in
    laid a.words.now a.rows.now l.each l.user c.met.result (omega arith) (omega arith) l.invariant c.met.ensures

pub returns : goal.returns
unfolding met_each
returns c =
    let a = c.args in
    let l = c.loop-user in
    rw (le-leb (length a.rows.now) 16 c.if-rows-gt16.false)
    (l.invariant ∙ copied_all 16 (mets a.words.now a.rows.now) l.user (omega (arith, mets_length a.words.now a.rows.now)))
