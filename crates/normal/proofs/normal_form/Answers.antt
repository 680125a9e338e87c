-- The reader's answer decides: a refusal is passed on, and an accepted policy is the words of one term, whose normal form is written.
use Rattle.std.proofs.Common.{◌≡◌, ℕ, ◌≤◌, ◌<◌, Bool, true, false, cond, List, [], ◌∷◌, ◌++◌, drop, length, ltb, eqb, refl, sym, ap, ◌∙◌, arith, eqb-true, ne_eqb, lt-ltb, le-ltb}
use Rattle.std.proofs.lemmas.Bool.{eqb-false}
use mathlib.Core.Logic.{◌≢◌}
use mathlib.Core.List.{append-nil}
use Rattle.soda.specs.Terms.{size}
use Rattle.soda.specs.Normal.{normal_form}
use Rattle.soda.specs.Words.{encode}
use Rattle.soda.proofs.Bools.{by_test}
use Rattle.soda.proofs.Words.{encode-length}
use Rattle.policy.specs.Codes.{ACCEPTED, OUTPUT}
use Rattle.policy.specs.Refusals.{code}
use Rattle.policy.specs.Words.{decode}
use Rattle.policy.specs.Faults.{code_at}
use Rattle.policy.specs.Reading.{refusals, units_of, read_policy}
use Rattle.normal.specs.NormalForms.{normal_words, normal_refusals, normal_code, normal_answer, normal_out}
use Rattle.normal.specs.Private.{Spelt, Written}
use Rattle.policy.specs.Codes.{Code}
use Rattle.policy.specs.Answers.{answer_code, code_of}
use Rattle.policy.specs.Codes.{Plain}
use Rattle.policy.specs.Reading.{PolicyRead}
use Rattle.policy.specs.Reading.{Accepted, Refused}
use Rattle.policy.proofs.Refusals.{clear, code_front, code-behind}
use Rattle.policy.proofs.Accepted.{read_is-encode, policy-is-words, decode-is-term}
use Rattle.std.proofs.lemmas.Result.{err_from_is_err_and}
use Rattle.normal.proofs.Normalising.{spelt}
use Rattle.normal.proofs.normal_form.Goals as goal

-- ── the answer ──
-- from the reader's answer and the output's length
abbrev answer_of : PolicyRead → ℕ → Code
answer_of (Accepted m units) n = Plain (cond (ltb n m) OUTPUT ACCEPTED)
answer_of (Refused c) n = c

module _ (users roles : ℕ) (ws out : List ℕ) where
  abbrev k : ℕ
  k = code (refusals users roles ws)

  -- 13 and 0 have no place
  plain : (b : Bool) → code_at users roles ws (cond b OUTPUT ACCEPTED) ≡ Plain (cond b OUTPUT ACCEPTED)
  unfolding code_at
  plain true = refl
  plain false = refl

  behind : (n : ℕ) → k ≡ 0 → normal_code users roles ws n ≡ cond (ltb n (length ws)) OUTPUT ACCEPTED
  unfolding normal_refusals
  behind n e = code-behind (refusals users roles ws) ((ltb n (length ws), OUTPUT) ∷ []) (clear (refusals users roles ws) refl e)

  front : (n : ℕ) → k ≢ 0 → normal_code users roles ws n ≡ k
  unfolding normal_refusals
  front n ne = code_front (refusals users roles ws) ((ltb n (length ws), OUTPUT) ∷ []) ne

  is-answer : (n : ℕ) → normal_answer users roles ws n ≡ answer_of (read_policy users roles ws) n
  unfolding read_policy
  is-answer n = by_test (eqb k 0)
      (λ e. ap (code_at users roles ws) (behind n (eqb-true k 0 e)) ∙ plain (ltb n (length ws)) ∙ rw e)
      λ e. ap (code_at users roles ws) (front n (eqb-false k 0 e)) ∙ rw e

  is_refused : (c : Code) → read_policy users roles ws ≡ Refused c → k ≢ 0
  unfolding read_policy
  is_refused c e z = let y : Accepted (length ws) (units_of (decode ws)) ≡ Refused c = rw z at e in let x : ◌≡◌ {A = ℕ} 0 1 = cc in omega arith

  -- a refusal leaves the output
  left : normal_code users roles ws (length out) ≢ 0 → out ≡ normal_out users roles ws out
  unfolding normal_out
  left ne = rw (ne_eqb (normal_code users roles ws (length out)) 0 ne)

  refused : (c : Code) → read_policy users roles ws ≡ Refused c → (c ≡ normal_answer users roles ws (length out)) × (out ≡ normal_out users roles ws out)
  refused c e =
      let n = is_refused c e in
      (sym (is-answer (length out) ∙ ap (λ (r : PolicyRead). answer_of r (length out)) e), left (λ z. n (sym (front (length out) n) ∙ z)))

  -- an accepted policy
  module _ (n m : ℕ) (e : read_policy users roles ws ≡ Accepted n m) where
    clear_code : k ≡ 0
    unfolding read_policy
    clear_code = by_test (eqb k 0) (λ d. eqb-true k 0 d)
        λ d. absurd (let z : Refused (code_at users roles ws k) ≡ Accepted n m = rw d at e in let y : ◌≡◌ {A = ℕ} 0 1 = cc in omega arith)

    word_count : length ws ≡ n
    unfolding read_policy
    word_count = let z : Accepted (length ws) (units_of (decode ws)) ≡ Accepted n m = rw clear_code at e in cc

  no_room : (n m : ℕ) → read_policy users roles ws ≡ Accepted n m → length out < n
      → (Plain OUTPUT ≡ normal_answer users roles ws (length out)) × (out ≡ normal_out users roles ws out)
  no_room n m e h =
      let short = lt-ltb (length out) (length ws) (omega (arith, word_count n m e)) in
      let b : normal_code users roles ws (length out) ≡ OUTPUT = behind (length out) (clear_code n m e) ∙ ap (λ b. cond b OUTPUT ACCEPTED) short in
      (sym (is-answer (length out) ∙ rw (e, lt-ltb (length out) n h)), left (λ z. omega (arith, b)))

  -- an accepted policy, and room for it
  module _ (n m : ℕ) (e : read_policy users roles ws ≡ Accepted n m) (h : n ≤ length out) where
    is_accepted : Plain ACCEPTED ≡ normal_answer users roles ws (length out)
    is_accepted = sym (is-answer (length out) ∙ rw (e, le-ltb (length out) n h))

    accepted : 0 ≡ normal_code users roles ws (length out)
    accepted = sym (behind (length out) (clear_code n m e) ∙ rw (le-ltb (length out) (length ws) (omega (arith, word_count n m e))))

    is-spelt : Spelt ws (length out)
    is-spelt =
        let r = (read_is-encode users roles ws n m).0 e in
        let p = r.1 in
        spelt ws (length out) r.0 [] (p.written ∙ sym (append-nil (encode r.0))) (policy-is-words users roles ws r.0 p).fit
        (omega (arith, p.short, ap length p.written, encode-length r.0)) (omega (arith, word_count n m e))

    written : {r : ℕ} {new : List ℕ} → Written ws out r new → new ≡ normal_out users roles ws out
    unfolding normal_out normal_words is-spelt spelt
    written {new = new} f =
        let r = (read_is-encode users roles ws n m).0 e in
        let l : length ws ≡ size r.0 = ap length r.1.written ∙ encode-length r.0 in
        let g : new ≡ encode (normal_form r.0) ++ drop (size r.0) out = (f is-spelt).1 in
        g ∙ rw (← accepted, decode-is-term users roles ws r.0 r.1, l)

-- ── the goals ──
pub returns-in_err-policy-clause-value : goal.returns-in_err-policy-clause-value
returns-in_err-policy-clause-value c =
    let a = c.args in
    let p = err_from_is_err_and c.from_residual.result c.from_residual.ensures.1 in
    ap answer_code p.1 ∙ ap code_of p.2 ∙ (refused a.users a.roles a.words.now a.out.now _ (sym c.in_err-policy.ensures)).0

pub returns-in_err-policy-clause-out_after : goal.returns-in_err-policy-clause-out_after
returns-in_err-policy-clause-out_after c =
    let a = c.args in
    (refused a.users a.roles a.words.now a.out.now _ (sym c.in_err-policy.ensures)).1

pub returns-then-out-policy-clause-value : goal.returns-then-out-policy-clause-value
returns-then-out-policy-clause-value c =
    let a = c.args in
    (no_room a.users a.roles a.words.now a.out.now _ _ (sym c.in_ok-policy.ensures) (omega arith)).0

pub returns-then-out-policy-clause-out_after : goal.returns-then-out-policy-clause-out_after
returns-then-out-policy-clause-out_after c =
    let a = c.args in
    (no_room a.users a.roles a.words.now a.out.now _ _ (sym c.in_ok-policy.ensures) (omega arith)).1

pub normal_term-requires : goal.normal_term-requires
normal_term-requires c =
    let a = c.args in
    is-spelt a.users a.roles a.words.now a.out.now _ _ (sym c.in_ok-policy.ensures) (omega arith)

pub returns-clause-value : goal.returns-clause-value
returns-clause-value c =
    let a = c.args in
    is_accepted a.users a.roles a.words.now a.out.now _ _ (sym c.in_ok-policy.ensures) (omega arith)

pub returns-clause-out_after : goal.returns-clause-out_after
returns-clause-out_after c =
    let a = c.args in
    written a.users a.roles a.words.now a.out.now _ _ (sym c.in_ok-policy.ensures) (omega arith) c.normal_term.ensures.written
