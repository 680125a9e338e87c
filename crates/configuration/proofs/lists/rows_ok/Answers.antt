-- The chain tests each row by the limit.
use Rattle.std.proofs.Common.{◌^◌, ltb, length, rules, tests, sym, ◌∙◌, arith}
use Rattle.std.proofs.lemmas.Iterator.{YieldsList-from_slice}
use Rattle.std.proofs.lemmas.Iterator.Search.{all_from_yields_List}
use Rattle.soda.proofs.Bits.{one_shl}
use Rattle.soda.proofs.Bools.{eq_so}
use Rattle.configuration.proofs.Chains.{same_all}
use Rattle.configuration.proofs.lists.rows_ok.Goals as goal

pub returns-then-rows-users : goal.returns-then-rows-users
returns-then-rows-users c =
    let a = c.args in
    let limit = one_shl 32 a.roles (omega (arith, c.requires)) in
    let tested = all_from_yields_List (λ h. ltb h (2 ^ a.roles)) _ _ c.all.result c.all.ensures.ran (YieldsList-from_slice a.rows.now cc) (λ x b q k. rw (sym limit) (search (rules, tests))) in
    rw (eq_so (length a.rows.now) a.users c.if-rows-users.true) (tested ∙ same_all (λ h. ltb h (2 ^ a.roles)) a.rows.now)
