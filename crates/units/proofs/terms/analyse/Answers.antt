-- What the row is of the words read so far says what is found of all.
use Rattle.std.proofs.Common.{sym, ap, ◌∙◌}
use Rattle.units.specs.Private.{analysis_in}
use Rattle.units.proofs.Stacks.{begin, stops, goes_on, more, one}
use Rattle.units.proofs.terms.analyse.Goals as goal

pub loop-word-init : goal.loop-word-init
loop-word-init c =
    let a = c.args in
    rw (c.into_iter-word-iterator.ensures.into_iter_gives, c.rev-word-items.ensures.source, c.iter.ensures.rest) (begin a.user a.held a.words.now)

pub returns-in_err-row : goal.returns-in_err-row
returns-in_err-row c =
    let a = c.args in
    c.from_residual.ensures
    ∙ sym (ap (analysis_in a.user a.held) (stops a.user a.held a.words.now c.loop-word.invariant _ c.in-Some.field-0.now c.in-Some.ensures.steps c.requires
    c.step.result c.step.ensures (c.in_err-row.was)))

pub loop-word-preserved : goal.loop-word-preserved
loop-word-preserved c =
    let a = c.args in
    goes_on a.user a.held a.words.now c.loop-word.invariant _ c.in-Some.field-0.now c.in-Some.ensures.steps c.requires c.step.result c.step.ensures
    c.in_ok-row.row (c.in_ok-row.was)

pub returns-then-row-ne1 : goal.returns-then-row-ne1
returns-then-row-ne1 c =
    let a = c.args in
    sym (ap (analysis_in a.user a.held) (more a.user a.held a.words.now c.loop-word.invariant c.in-None.ensures.steps.0 c.if-row-ne1.true))

pub returns : goal.returns
returns c =
    let a = c.args in
    one a.user a.held a.words.now c.loop-word.invariant c.in-None.ensures.steps.0 c.if-row-ne1.false
