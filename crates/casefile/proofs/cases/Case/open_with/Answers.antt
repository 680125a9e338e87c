-- A case's parts lie within its bytes and fit the arrays, so that the arrays' parts are the words and rows that the case holds.
use Rattle.std.proofs.Common.{◌≡◌, ◌≤◌, ◌+◌, ◌-◌, ◌/◌, ℕ, List, get_or, sym, ap, ◌∙◌, arith}
use mathlib.Core.Path.{ap₂}
use Rattle.std.proofs.lemmas.List.{length-take-le}
use Rattle.monitor.specs.Monitors.{given, opening}
use Rattle.casefile.specs.declared.cases.Case.{Case}
use Rattle.casefile.specs.Cases.{wides, halves, opening_between}
use Rattle.casefile.specs.Private.{case_of}
use Rattle.casefile.proofs.Placing.{placed}
use Rattle.casefile.proofs.cases.Case.open_with.Goals as goal

pub slice_bounds-words-end : goal.slice_bounds-words-end
slice_bounds-words-end c = let p = placed c.args.bytes.now c.args.self c.requires in omega arith

pub slice_bounds-words-end-2 : goal.slice_bounds-words-end-2
slice_bounds-words-end-2 c =
    let p = placed c.args.bytes.now c.args.self c.requires in
    let k : c.from.result ≤ 1024 = omega arith in
    sym (length-take-le c.from.result _ k)

pub fill-requires : goal.fill-requires
fill-requires c =
    let p = placed c.args.bytes.now c.args.self c.requires in
    let k : c.from.result ≤ 1024 = omega arith in
    rw (length-take-le c.from.result _ k) (omega arith)

pub overflow_sub-self : goal.overflow_sub-self
overflow_sub-self c = (placed c.args.bytes.now c.args.self c.requires).grants_some

pub slice_bounds-rows-end : goal.slice_bounds-rows-end
slice_bounds-rows-end c = let p = placed c.args.bytes.now c.args.self c.requires in omega arith

pub slice_bounds-rows-end-2 : goal.slice_bounds-rows-end-2
slice_bounds-rows-end-2 c =
    let p = placed c.args.bytes.now c.args.self c.requires in
    let k : c.from-3.result ≤ 2048 = omega arith in
    sym (length-take-le c.from-3.result _ k)

pub fill-requires-2 : goal.fill-requires-2
fill-requires-2 c =
    let p = placed c.args.bytes.now c.args.self c.requires in
    let k : c.from-3.result ≤ 2048 = omega arith in
    rw (length-take-le c.from-3.result _ k) (omega arith)

pub bounds-bytes-grants : goal.bounds-bytes-grants
bounds-bytes-grants c = let p = placed c.args.bytes.now c.args.self c.requires in omega arith

pub bounds-bytes-grants-2 : goal.bounds-bytes-grants-2
bounds-bytes-grants-2 c = let p = placed c.args.bytes.now c.args.self c.requires in omega arith

-- what a case's opening is given, by where its parts lie
given-is : (b : List ℕ) (d : Case) → d ≡ case_of b → (permissions workflow words rows : List ℕ) (from count grants seats : ℕ) → words ≡ wides b from count
    → rows ≡ halves b (grants + 2) seats → from ≡ d.policy.offset → count ≡ d.policy.length / 4 → grants ≡ d.grants.offset → seats ≡ (d.grants.length - 2) / 2
    → given (get_or b grants 0) (get_or b (grants + 1) 0) words rows permissions workflow ≡ opening_between b permissions workflow
given-is b d h permissions workflow words rows from count grants seats w r f n g s =
    let first : from ≡ (case_of b).policy.offset = f ∙ ap (λ (x : Case). x.policy.offset) h in
    let many : count ≡ (case_of b).policy.length / 4 = n ∙ ap (λ (x : Case). x.policy.length / 4) h in
    let begin : grants ≡ (case_of b).grants.offset = g ∙ ap (λ (x : Case). x.grants.offset) h in
    let users : seats ≡ ((case_of b).grants.length - 2) / 2 = s ∙ ap (λ (x : Case). (x.grants.length - 2) / 2) h in
    λ i. given (get_or b (begin i) 0) (get_or b (begin i + 1) 0) ((w ∙ ap₂ (λ (k m : ℕ). wides b k m) first many) i)
    ((r ∙ ap₂ (λ (k m : ℕ). halves b (k + 2) m) begin users) i) permissions workflow

pub returns : goal.returns
returns c =
    let a = c.args in
    let b : List ℕ = a.bytes.now in
    let p = placed b a.self c.requires in
    let few : c.from.result ≤ 1024 = omega arith in
    let some : c.from-3.result ≤ 2048 = omega arith in
    c.open.ensures
    ∙ ap opening (given-is b a.self c.requires.parts a.permissions.now a.workflow.now c.fill.new.places c.fill-2.new.places c.from-2.result _ c.from-grants.result _ c.fill.ensures c.fill-2.ensures
    c.from-2.ensures (length-take-le c.from.result _ few ∙ c.from.ensures) c.from-grants.ensures (length-take-le c.from-3.result _ some ∙ c.from-3.ensures))
