-- At each `return` the tests that led there say which refusal is due.
use Rattle.std.proofs.Common.{◌≡◌, ℕ, length, sym, ap, ◌∙◌, arith, None}
use Rattle.std.proofs.lemmas.Grind.{common_steps}
use borrow.Author.Tests.{not-true, not-false}
use Rattle.std.proofs.Math.Option.{Option, none}
use Rattle.soda.specs.Terms.{Term}
use Rattle.soda.specs.Lists.{first_failing}
use Rattle.policy.specs.Codes.{WORD, TERM, UNIT, Fault}
use Rattle.policy.specs.Words.{first}
use Rattle.policy.specs.Faults.{left_over}
use Rattle.policy.specs.Reading.{Accepted, Refused, as_read}
use Rattle.policy.specs.Private.{over_units}
use Rattle.policy.specs.Accepted.{InLayout}
use Rattle.policy.specs.declared.reader.First.{First}
use Rattle.policy.proofs.Layouts.{layout-known}
use Rattle.policy.proofs.Grammar.{decode_missing}
use Rattle.policy.proofs.Scanning.{length-range, ReadOf, missing, whole}
use Rattle.policy.proofs.Accepted.{is_miscounted, is-long, is-bad, is_none, is_ill, is_formed_lem}
use Rattle.policy.proofs.Faults.{over_is}
use Rattle.policy.proofs.reading.read.Goals as goal
use Rattle.policy.proofs.reading.read.Goals.{In_default, In_ok-term}

-- ── what the tests say ──
in_layout : (c : In_default) → InLayout c.args.users c.args.roles c.args.words.now
in_layout c = record { counts = cc; long = cc; layout = sym c.in_default.ensures.none }

-- what is read of the first term, and of which term
read-of : (c : In_ok-term) → ReadOf c.args.words.now c.in_ok-term.term
read-of c = whole c.args.words.now c.in_ok-term.term (sym c.in_ok-term.ensures.ok_part ∙ c.scan.ensures.first)

-- ── 5, 1 and 2 ──
pub returns-then-not-counts_ok : goal.returns-then-not-counts_ok
returns-then-not-counts_ok c = sym (is_miscounted c.args.users c.args.roles c.args.words.now (cc))

pub returns-then-not-length_ok : goal.returns-then-not-length_ok
returns-then-not-length_ok c = sym (is-long c.args.users c.args.roles c.args.words.now (cc) (cc))

pub returns-in-Some : goal.returns-in-Some
returns-in-Some c =
    ap (λ (p : ℕ). Refused (Fault WORD p)) c.in-Some.ensures.place
    ∙ sym (is-bad c.args.users c.args.roles c.args.words.now (cc) (cc) (sym c.in-Some.ensures.none))

-- ── 3 and 4 ──
pub scan-requires : goal.scan-requires
scan-requires c =
    let i = in_layout (goal.at.scan-requires c).In_default in
    let l = length-range _ i.long in
    (l.0, l.1, layout-known c.args.users c.args.roles c.args.words.now i.layout)

pub returns-in_err-term : goal.returns-in_err-term
returns-in_err-term c =
    let ws = c.args.words.now in
    let i = in_layout (goal.at.returns-in_err-term c).In_default in
    let m : first ws ≡ none = missing _ (sym c.in_err-term.ensures.ok_part ∙ c.scan.ensures.first) in
    let n : c.scan.result ≡ None = c.in_err-term.ensures.ok_part in
    let v = rw n at c.in_err-term.ensures.value in
    let q : as_read c.from_residual.result ≡ Refused (Fault TERM (length ws)) = grind (arith, common_steps) in
    q ∙ sym (is_none _ _ ws i (decode_missing ws m) ∙ ap (λ (x : Option Term). Refused (Fault TERM (left_over x (length ws)))) m)

pub returns-then-term-words : goal.returns-then-term-words
returns-then-term-words c =
    let ws = c.args.words.now in
    let i = in_layout (goal.at.returns-then-term-words c).In_default in
    let r = read-of (goal.at.returns-then-term-words c).In_ok-term in
    ap (λ (f : First). Refused (Fault TERM f.words)) r.is
    ∙ sym (is_none _ _ ws i (r.more (omega arith)) ∙ ap (λ (x : Option Term). Refused (Fault TERM (left_over x (length ws)))) r.begun)

pub returns-then-not-term : goal.returns-then-not-term
returns-then-not-term c =
    let ws = c.args.words.now in
    let i = in_layout (goal.at.returns-then-not-term c).In_default in
    let r = read-of (goal.at.returns-then-not-term c).In_ok-term in
    let d = r.one (omega arith) in
    ap (λ (p : ℕ). Refused (Fault UNIT p))
    (c.not_over_unit.ensures.place ∙ ap (λ (f : First). first_failing (λ b. b) (over_units f.units ws)) r.is ∙ over_is ws r.φ d)
    ∙ sym (is_ill _ _ ws i r.φ d (ap (λ (f : First). f.formed) (sym r.is) ∙ not-true _ c.if-not-term.true))

pub returns : goal.returns
returns c =
    let ws = c.args.words.now in
    let i = in_layout (goal.at.returns c).In_default in
    let r = read-of (goal.at.returns c).In_ok-term in
    let d = r.one (omega arith) in
    ap (λ (f : First). Accepted (length ws) f.units) r.is
    ∙ sym (is_formed_lem _ _ ws i r.φ d (ap (λ (f : First). f.formed) (sym r.is) ∙ not-false _ c.if-not-term.false))
