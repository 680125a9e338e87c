-- All that was left is unused where the first sixteen of it are, and what is behind them.
use Rattle.std.proofs.Common.{◌≡◌, Bool, ◌&&◌, List, take, drop, sym, ap, ◌∙◌, take-append-drop}
use mathlib.Core.Path.{ap₂}
use Rattle.soda.specs.Lists.{all}
use Rattle.soda.specs.declared.Transition.{Transition}
use Rattle.soda.proofs.Splits.{all_append}
use Rattle.workflow.specs.Workflows.{is_idle}
use Rattle.workflow.proofs.transitions.idle_transitions.Goals as goal

parted : {so b : Bool} {sixteen more : List Transition} (rest : List Transition) → so ≡ all is_idle rest → sixteen ≡ take 16 rest → more ≡ drop 16 rest
    → b ≡ all is_idle sixteen → so ≡ (b && all is_idle more)
parted rest kept front behind e =
    kept
    ∙ ap (all is_idle) (sym (take-append-drop 16 rest))
    ∙ all_append is_idle (take 16 rest) (drop 16 rest)
    ∙ ap₂ ◌&&◌ (sym (e ∙ ap (all is_idle) front)) (ap (all is_idle) (sym behind))

pub returns-then-not-are_idle : goal.returns-then-not-are_idle
returns-then-not-are_idle c =
    let e = sym c.if-not-are_idle.true ∙ c.are_idle.ensures in
    sym (parted c.loop-sixteen.rest.now c.loop-sixteen.invariant c.in-Some.ensures.cases.0 c.in-Some.ensures.cases.1 e)

pub loop-sixteen-preserved : goal.loop-sixteen-preserved
loop-sixteen-preserved c =
    let e = sym c.if-not-are_idle.false ∙ c.are_idle.ensures in
    parted c.loop-sixteen.rest.now c.loop-sixteen.invariant c.in-Some.ensures.cases.0 c.in-Some.ensures.cases.1 e
