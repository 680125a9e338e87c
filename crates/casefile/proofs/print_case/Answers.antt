-- Each return puts the text of its case at the output's start: malformed, refused by the opening, or run.
use Rattle.std.proofs.Common.{◌≡◌, ◌+◌, ◌≤◌, ◌++◌, ℕ, List, Bool, true, false, cond, Some, None, length, drop, refl, sym, ap, subst, ◌∙◌, lt-ltb, le-ltb, eq-eqb, arith}
use borrow.Author.Tests.{ne_eqb}
use Rattle.std.proofs.Math.Bool.{So}
use Rattle.policy.specs.Codes.{ACCEPTED, CASE, Plain}
use Rattle.policy.specs.Faults.{code_number}
use Rattle.policy.specs.Answers.{code_of}
use Rattle.policy.specs.declared.refusal.Refusal.{Refusal}
use Rattle.policy.proofs.Places.{code_has_number}
use Rattle.monitor.specs.declared.Monitor.{Monitor}
use Rattle.monitor.specs.Monitors.{Opened, open_code, blank, fresh, opened, opening, well_formed}
use Rattle.monitor.proofs.Opening.{opened-is-fresh}
use Rattle.monitor.proofs.Preserved.{opened-is_well_formed}
use Rattle.casefile.specs.declared.cases.Case.{Case}
use Rattle.casefile.specs.Cases.{case_ok, opening_of, event_words}
use Rattle.casefile.specs.Texts.{Written, refused_text, run_text, case_text, limit, printed, output}
use Rattle.casefile.specs.Private.{Put}
use Rattle.casefile.proofs.Refusing.{above-none}
use Rattle.casefile.proofs.print_case.Goals as goal

-- ── the text of a case ──
module _ (b : List ℕ) where
  abbrev number : ℕ
  number = open_code (opening_of b)

  malformed_text : case_ok b ≡ false → case_text b ≡ refused_text (Plain CASE)
  unfolding case_text
  malformed_text h = rw h

  refused-text : case_ok b ≡ true → (number ≡ 0 → ⊥) → case_text b ≡ refused_text (opening (opening_of b)).code
  unfolding case_text
  refused-text h n = rw (h, ne_eqb number 0 n)

  opened-text : case_ok b ≡ true → number ≡ 0 → case_text b ≡ run_text (opened (opening_of b)) (event_words b)
  unfolding case_text
  opened-text h z = rw (h, eq-eqb number 0 z)

  -- the text at the output's start is what the contract asks
  answered : (out : List ℕ) {text : List ℕ} {next : ℕ} {left : List ℕ} → limit ≤ length out → case_text b ≡ text → Put out 0 text next left
      → (Written next ≡ printed b (length out)) × (left ≡ output b out)
  unfolding printed output
  answered out {text} l e p =
      let n : 0 + length text ≡ length text = omega arith in (
        ap Written (p.place ∙ n) ∙ rw (le-ltb (length out) limit l, e),
        p.holds ∙ ap (λ (k : ℕ). text ++ drop k out) n ∙ rw (le-ltb (length out) limit l, e),
      )

  -- ── what its opening gave ──
  number_is : code_number (opening (opening_of b)).code ≡ number
  number_is = let i = opening_of b in code_has_number i.users i.roles i.words (open_code i)

  accepted : (m : Monitor) → record { code = Plain ACCEPTED; monitor = m } ≡ opening (opening_of b) → number ≡ 0
  accepted m e = sym (ap (λ (o : Opened). code_number o.code) e ∙ number_is)

  left_is : (m : Monitor) → record { code = Plain ACCEPTED; monitor = m } ≡ opening (opening_of b) → m ≡ opened (opening_of b)
  left_is m e = ap (λ (o : Opened). o.monitor) e

  code_is : (r : Refusal) → record { code = code_of r; monitor = blank } ≡ opening (opening_of b) → code_of r ≡ (opening (opening_of b)).code
  code_is r e = ap (λ (o : Opened). o.code) e

  refused : (r : Refusal) → record { code = code_of r; monitor = blank } ≡ opening (opening_of b) → number ≡ 0 → ⊥
  refused r e z = let k = above-none r in let n = ap code_number (code_is r e) ∙ number_is ∙ z in absurd (omega arith)

-- what is read of a case, or not
found : (t : Bool) (x y : Case) → Some y ≡ cond t (Some x) None → (t ≡ true) × (y ≡ x)
found true x y e = (refl, cc)
found false x y e = cc

not_found : (t : Bool) (x : Case) → None ≡ cond t (Some x) None → t ≡ false
not_found true x e = cc
not_found false x e = refl

pub returns-then-out-lt-LIMIT : goal.returns-then-out-lt-LIMIT
unfolding printed output
returns-then-out-lt-LIMIT c =
    let out : List ℕ = c.args.out.now in
    (rw (lt-ltb (length out) limit (omega arith)), rw (lt-ltb (length out) limit (omega arith)))

pub returns-in_default : goal.returns-in_default
returns-in_default c =
    let b : List ℕ = c.args.bytes.now in
    answered b c.args.out.now (omega arith) (malformed_text b (not_found _ _ (sym c.in_default.is ∙ c.read.ensures))) c.put_refused.ensures

pub run-requires : goal.run-requires
unfolding fresh
run-requires c =
    let b : List ℕ = c.args.bytes.now in
    let m = c.in-Ok.monitor in
    let read = found _ _ _ (sym c.in-Some.is ∙ c.read.ensures) in
    let opens = accepted b m c.in-Ok.ensures in
    let new : m ≡ fresh (opening_of b) = left_is b m c.in-Ok.ensures ∙ opened-is-fresh (opening_of b) opens in
    record {
      is_formed = subst (λ (i : Monitor). So (well_formed i)) (sym new) (opened-is_well_formed (opening_of b) opens);
      none = ap (λ (i : Monitor). i.instance.taken) new;
      case = read.0;
      part = ap (λ (x : Case). x.events) read.1;
      fits = omega arith;
    }

pub returns-in-Ok : goal.returns-in-Ok
returns-in-Ok c =
    let b : List ℕ = c.args.bytes.now in
    let m = c.in-Ok.monitor in
    let read = found _ _ _ (sym c.in-Some.is ∙ c.read.ensures) in
    let text : case_text b ≡ run_text m (event_words b) =
    opened-text b read.0 (accepted b m c.in-Ok.ensures) ∙ ap (λ (i : Monitor). run_text i (event_words b)) (sym (left_is b m c.in-Ok.ensures)) in
    answered b c.args.out.now (omega arith) text c.run.ensures

pub returns-in-Err : goal.returns-in-Err
returns-in-Err c =
    let b : List ℕ = c.args.bytes.now in
    let r = c.in-Err.refusal in
    let read = found _ _ _ (sym c.in-Some.is ∙ c.read.ensures) in
    answered b c.args.out.now (omega arith) (refused-text b read.0 (refused b r c.in-Err.ensures) ∙ ap refused_text (sym (code_is b r c.in-Err.ensures)))
    c.put_refused-in-Err.ensures
