-- With no word of together or apart, and in a single action, there is nothing to find; with none of apart, users need not be compared.
use Rattle.std.proofs.Common.{rules, ◌-◌, ◌||◌, bit_and, bit_or, eqb, sym, ◌∙◌, ap, ap₂, subst}
use mathlib.Core.Path.{fun_ext}
use Rattle.soda.specs.Bits.{bit}
use Rattle.soda.proofs.Bits.{bit_of_zero}
use Rattle.rows.proofs.Digits.{bit-and, bit-or}
use Rattle.workspace.specs.Private.{JoinedBy, Joined, digits, found_in, users_at, sided, sided_in, matched}
use Rattle.workspace.proofs.Walk.{joined_one, joined_masked, any-user, where-counted}
use Rattle.workspace.proofs.parts.joints.Goals as goal

pub returns-then-t-eq0 : goal.returns-then-t-eq0
returns-then-t-eq0 c = joined_one _ _ _ c.requires.2 c.if-t-eq0.true

pub returns-then-joint-anyone : goal.returns-then-joint-anyone
returns-then-joint-anyone c =
    let a = c.args in
    let sets = a.sets.now in
    let r = c.joined-found.result in
    subst (λ f. Joined f a.s (bit_and (bit_or r.ahead r.back) a.joint))
    (fun_ext (λ x. fun_ext (λ q. any-user (bit q a.joint) (bit q a.anyone) (matched sets a.s x q)
    (eqb (bit_and (users_at sets x) (users_at sets (a.s - x))) 0) (sym (bit-and q a.joint a.anyone) ∙ ap (bit q) c.if-joint-anyone.true))))
    (joined_masked (matched sets a.s) a.s a.joint (bit_or r.ahead r.back)
    (subst (JoinedBy (matched sets a.s) a.s) (fun_ext (λ q. sym (bit-or q r.ahead r.back)))
    (c.joined-found.ensures found_in sided (record { adds = λ x r one two p. search rules }) (λ q. ap₂ ◌||◌ (bit_of_zero q) (bit_of_zero q)))))

pub returns : goal.returns
returns c =
    let a = c.args in
    let sets = a.sets.now in
    subst (λ f. Joined f a.s (bit_and c.joined.result a.joint))
    (fun_ext (λ x. fun_ext (λ q. where-counted q a.joint a.anyone (matched sets a.s x q) (eqb (bit_and (users_at sets x) (users_at sets (a.s - x))) 0))))
    (joined_masked _ _ _ _ (c.joined.ensures digits (sided_in a.joint a.anyone) (record { adds = λ x r one two p. search rules }) (λ q. bit_of_zero q)))
