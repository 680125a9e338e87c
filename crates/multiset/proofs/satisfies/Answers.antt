-- The refusals in order; behind them the multiset's actions are evaluated.
use Rattle.std.specs.Prelude.{Result}
use Rattle.std.proofs.Common.{◌≡◌, ◌≢◌, ℕ, ◌≤◌, ◌<◌, refl, true, false, List, length, take, drop, sym, ap, subst, ◌∙◌, arith, lt-ltb, le-ltb, rules}
use Rattle.std.proofs.lemmas.Result.{err_from_is_err_and}
use lib.Dec.{ltb}
use Rattle.soda.specs.Lists.{all}
use Rattle.soda.proofs.Bools.{so_eq}
use Rattle.soda.specs.declared.Action.{Action}
use Rattle.policy.specs.Codes.{Code, Plain, MALFORMED, FULL, WORKSPACE}
use Rattle.policy.specs.Faults.{code_number}
use Rattle.policy.specs.Answers.{code_of}
use Rattle.policy.specs.declared.refusal.Refusal.{Refusal}
use Rattle.policy.specs.declared.refusal.Refusal.TheVariants.{Workspace, Malformed, Full}
use Rattle.policy.proofs.Places.{code_has_number}
use Rattle.configuration.specs.Configurations.{is_zero}
use Rattle.monitor.specs.Evaluations.{Evaluates}
use Rattle.monitor.specs.declared.evaluation.Evaluation.{Evaluation}
use Rattle.monitor.specs.Monitors.{Opening, Opened, bare, opening, open_code, code_in}
use Rattle.monitor.proofs.Checks.{refusal-number}
use Rattle.monitor.proofs.Evaluating.{workspace-is, satisfied-is}
use Rattle.multiset.specs.MultisetTest.{total, actions_of, unordered, test_refusals, test_code}
use Rattle.multiset.proofs.Listed.{total-zero, total-is-sum}
use Rattle.multiset.proofs.Answers.{counted, users-few, fills, code_opening, code_own, refused_test, refused_plain, answered_test}
use Rattle.multiset.proofs.satisfies.Goals as goal

-- the number of the opening's code is the opening's
opened_number : (o : Opening) (x : Code) → x ≡ code_in o (open_code o) → code_number x ≡ open_code o
opened_number o x e = ap code_number e ∙ code_has_number o.users o.roles o.words (open_code o)

no_refusal : (o : Opening) (counts before : List ℕ) → ltb (length before) 8192 ≡ false → open_code (unordered o) ≡ 0 → all is_zero (drop o.users counts) ≡ true
    → total counts ≤ 12 → test_code o counts (length before) ≡ 0
no_refusal o counts before long accepted d few =
    code_own o counts before long accepted ∙ rw (d, le-ltb 12 (total counts) few)

pub returns-then-workspace-lt8192 : goal.returns-then-workspace-lt8192
unfolding test_refusals
returns-then-workspace-lt8192 c =
    let a = c.args in
    let o = bare a.users a.roles a.words.now a.rows.now in
    refused_plain o a.counts a.workspace.now Workspace WORKSPACE (omega arith) refl (rw (lt-ltb (length a.workspace.now) 8192 c.if-workspace-lt8192.true))

pub returns-in_err-open : goal.returns-in_err-open
returns-in_err-open c =
    let a = c.args in
    let o = bare a.users a.roles a.words.now a.rows.now in
    let p = err_from_is_err_and c.from_residual.result c.from_residual.ensures.1 in
    let r = c.in_err-open.field-0.0 in
    let d : code_of r ≡ code_in o (open_code o) = ap (λ (x : Opened). x.code) c.in_err-open.ensures in
    let ne : open_code o ≢ 0 = λ z. refusal-number r (opened_number o (code_of r) d ∙ z) in
    rw (p.1, p.2)
    (refused_test o a.counts a.workspace.now r (open_code o) ne d (code_opening o a.counts a.workspace.now (le-ltb (length a.workspace.now) 8192 (omega (arith, c.if-workspace-lt8192.false))) ne))

-- an accepted opening
accepted : (o : Opening) (x : Opened) → x.code ≡ Plain 0 → x ≡ opening o → open_code o ≡ 0
accepted o x z e = sym (opened_number o (Plain 0) (sym z ∙ ap (λ (y : Opened). y.code) e))

-- what the evaluation of a multiset's actions says
module _ (o : Opening) (counts before : List ℕ) (n : ℕ) (l : List Action) (number : n ≡ total counts) (are : take (total counts) l ≡ actions_of o counts)
    (r : Result Evaluation Refusal) (after : List ℕ) where
  evaluates : Evaluates o.words (take n l) before r after → Evaluates o.words (actions_of o counts) before r after
  evaluates = subst (λ k. Evaluates o.words k before r after) (ap (λ (k : ℕ). take k l) number ∙ are)

pub split_at-requires : goal.split_at-requires
split_at-requires c =
    let a = c.args in
    let o = bare a.users a.roles a.words.now a.rows.now in
    omega (arith, users-few o a.counts (accepted o _ refl c.in_ok-open.ensures))

pub returns-then-not-all_are : goal.returns-then-not-all_are
returns-then-not-all_are c =
    let a = c.args in
    let o = bare a.users a.roles a.words.now a.rows.now in
    let declared : c.all_are.result ≡ all is_zero (drop a.users a.counts) = c.all_are.ensures ∙ ap (λ (l : List ℕ). all is_zero l) c.split_at.ensures.back in
    refused_plain o a.counts a.workspace.now Malformed MALFORMED (omega arith) refl
    (code_own o a.counts a.workspace.now (le-ltb (length a.workspace.now) 8192 c.if-workspace-lt8192.false) (accepted o _ refl c.in_ok-open.ensures)
    ∙ rw (sym declared ∙ c.if-not-all_are.true))

pub returns-then-number-gt12 : goal.returns-then-number-gt12
returns-then-number-gt12 c =
    let a = c.args in
    let o = bare a.users a.roles a.words.now a.rows.now in
    let declared : c.all_are.result ≡ all is_zero (drop a.users a.counts) = c.all_are.ensures ∙ ap (λ (l : List ℕ). all is_zero l) c.split_at.ensures.back in
    let many : 12 < total a.counts = omega (arith, c.if-number-gt12.true, c.total-number.ensures, total-is-sum a.counts) in
    refused_plain o a.counts a.workspace.now Full FULL (omega arith) refl
    (code_own o a.counts a.workspace.now (le-ltb (length a.workspace.now) 8192 c.if-workspace-lt8192.false) (accepted o _ refl c.in_ok-open.ensures)
    ∙ rw (sym declared ∙ c.if-not-all_are.false, lt-ltb 12 (total a.counts) many))

pub actions_of-actions-requires : goal.actions_of-actions-requires
actions_of-actions-requires c =
    let a = c.args in
    let o = bare a.users a.roles a.words.now a.rows.now in
    let declared : c.all_are.result ≡ all is_zero (drop a.users a.counts) = c.all_are.ensures ∙ ap (λ (l : List ℕ). all is_zero l) c.split_at.ensures.back in
    let few : total a.counts ≤ 12 = omega (arith, c.if-number-gt12.false, c.total-number.ensures, total-is-sum a.counts) in
    counted o a.counts (accepted o _ refl c.in_ok-open.ensures) few
    (so_eq (total (drop a.users a.counts)) 0 (sym (total-zero (drop a.users a.counts)) ∙ sym declared ∙ c.if-not-all_are.false))

pub returns : goal.returns
returns c =
    let a = c.args in
    let o = bare a.users a.roles a.words.now a.rows.now in
    let before : List ℕ = a.workspace.now in
    let after : List ℕ = c.evaluate.new.workspace in
    let declared : c.all_are.result ≡ all is_zero (drop a.users a.counts) = c.all_are.ensures ∙ ap (λ (l : List ℕ). all is_zero l) c.split_at.ensures.back in
    let number : c.total-number.result ≡ total a.counts = c.total-number.ensures ∙ sym (total-is-sum a.counts) in
    let few : total a.counts ≤ 12 = omega (arith, c.if-number-gt12.false, number) in
    let opens = accepted o _ refl c.in_ok-open.ensures in
    let long = c.if-workspace-lt8192.false in
    let k = evaluates o a.counts before c.total-number.result c.actions_of-actions.result number c.actions_of-actions.ensures c.evaluate.result after c.evaluate.ensures in
    let f = fills o a.counts opens few before (search rules) long in
    answered_test o a.counts before after
    (no_refusal o a.counts before (le-ltb (length before) 8192 long) opens (sym declared ∙ c.if-not-all_are.false) few)
    (workspace-is o.words (actions_of o a.counts) before f c.evaluate.result after k)
    c.in_ok-evaluation.evaluation.satisfied
    (satisfied-is o.words (actions_of o a.counts) before f c.evaluate.result after k c.in_ok-evaluation.evaluation c.in_ok-evaluation.was)
