-- Each test that fails leaves the workspace as it was; behind the last, the last user's action is put behind the others.
use Rattle.std.proofs.Common.{◌∙◌, sym, subst, refl, length, arith}
use mathlib.Core.List.{List}
use lib.ListN.{replicate, length-replicate}
use Rattle.soda.specs.declared.Action.{Action}
use Rattle.soda.proofs.Bools.{so_eq}
use Rattle.workspace.specs.Private.{FillsTrying}
use Rattle.workspace.proofs.Fillable.{not-empty, is_full, no_user, too_many_users, is-tried, tried-front}
use Rattle.workspace.proofs.try_users.Goals as goal

-- the places of twelve actions
abbrev twelve : List Action
twelve = replicate 12 (record { user = 0; met = 0 })

pub returns-then-taken-gt11 : goal.returns-then-taken-gt11
returns-then-taken-gt11 c = is_full _ _ _ _ _ c.if-taken-gt11.true

pub returns-then-is_empty : goal.returns-then-is_empty
returns-then-is_empty c = no_user _ _ _ _ _ (so_eq _ 0 (sym c.is_empty.ensures ∙ c.if-is_empty.true))

pub returns-then-met-gt16 : goal.returns-then-met-gt16
returns-then-met-gt16 c = too_many_users _ _ _ _ _ c.if-met-gt16.true

pub returns : goal.returns
returns c =
    let a = c.args in
    let l = a.actions.now in
    let h = c.fill_trying.ensures in
    is-tried a.words.now l (length l) a.met.now a.workspace.now c.new.result c.fill_trying.result c.fill_trying.new.workspace
    refl (omega arith) (not-empty _ (sym c.is_empty.ensures ∙ c.if-is_empty.false)) c.if-met-gt16.false c.new.ensures
    (subst (λ k. FillsTrying a.words.now k a.met.now a.workspace.now c.fill_trying.result c.fill_trying.new.workspace)
    (tried-front a.words.now l (length l) a.met.now a.workspace.now c.copy_from_slice.new.self twelve c.new.result c.copy_from_slice.ensures.after (omega (arith, length-replicate {A = Action} 12 (record { user = 0; met = 0 })))) h)
