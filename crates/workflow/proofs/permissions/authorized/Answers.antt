-- No role gives an action above 63; of the others each role is asked.
use Rattle.std.proofs.Common.{ℕ, ◌≡◌, false, ◌&&◌, List, [], ◌∷◌, get_or, length, ltb, refl, sym, arith, rules, tests}
use mathlib.Core.Bool.{and-false}
use borrow.Author.Tests.{lt-ltb, le-ltb}
use Rattle.std.proofs.lemmas.Iterator.{YieldsList-from_range}
use Rattle.std.proofs.lemmas.Iterator.Search.{any_from_yields_List}
use Rattle.soda.specs.Bits.{bit}
use Rattle.soda.specs.Lists.{any, range}
use Rattle.soda.specs.Roles.{PA, permitted}
use Rattle.workflow.proofs.permissions.authorized.Goals as goal

-- no role gives an action above 63
none : (pa : PA) (h a : ℕ) → ltb a 64 ≡ false → (l : List ℕ) → any (λ r. bit r h && permitted pa r a) l ≡ false
none pa h a e [] = refl
none pa h a e (r ∷ l) = rw (e, and-false (bit r h)) (none pa h a e l)

pub returns-then-action-gt63 : goal.returns-then-action-gt63
returns-then-action-gt63 c =
    let a = c.args in
    sym (none a.permissions a.held a.action (le-ltb a.action 64 c.if-action-gt63.true) (range 0 (length a.permissions)))

pub returns : goal.returns
returns c =
    let a = c.args in
    let long : length a.permissions ≡ 16 = search rules in
    let found = any_from_yields_List (λ r. bit r a.held && bit a.action (get_or a.permissions r 0)) _ _ c.any.result c.any.ensures.ran (YieldsList-from_range 0 16 16 (cc) refl) (λ x b q k. search (rules, tests)) in
    rw (long, lt-ltb a.action 64 (omega arith)) found
