-- What a policy read says of an opening: its number is the opening's, and where it is accepted the rows decide.
use mathlib.Core.Path.{◌≡◌, refl, sym, ap, subst, ◌∙◌}
use mathlib.Core.Logic.{◌≢◌}
use mathlib.Core.Bool.{Bool, true, false, not, ◌&&◌, cond}
use mathlib.Core.List.{List, ◌++◌}
use Prim.Native.Nat.{ℕ}
use native.Mathlib.Omega.{arith}
use lib.Dec.{eqb}
use lib.ListN.{length}
use borrow.Author.Tests.{eqb-true, eqb-false, ne_eqb, not-false}
use Rattle.soda.proofs.Bools.{by_test}
use Rattle.policy.specs.Codes.{ROWS, WORKFLOW}
use Rattle.policy.specs.Refusals.{code, Refusals, Clear}
use Rattle.policy.specs.Words.{decode}
use Rattle.policy.specs.Faults.{code_at, code_number}
use Rattle.policy.specs.Answers.{code_of}
use Rattle.policy.specs.declared.refusal.Refusal.{Refusal}
use Rattle.policy.specs.Reading.{count_ok, refusals, units_of, read_policy}
use Rattle.policy.specs.Codes.{Code}
use Rattle.policy.specs.Codes.{Plain}
use Rattle.policy.specs.Reading.{PolicyRead}
use Rattle.policy.specs.Reading.{Accepted, Refused}
use Rattle.policy.proofs.Refusals.{clear, code_front, code-behind}
use Rattle.configuration.specs.Configurations.{rows_ok, row_refusals, configuration_of, given_configuration}
use Rattle.workflow.specs.Reading.{secure_ok}
use Rattle.monitor.specs.Monitors.{Opening, code_in, blank, secure_refusals, open_refusals, open_code, fresh, opened, opening}
use Rattle.monitor.specs.Laws.{OpenedIsFresh}
use Rattle.monitor.proofs.Checks.{refusal-number, refusal_plain}

-- what an accepted read says
pub record IsRead (users roles : ℕ) (words : List ℕ) (n : ℕ) : Type 0 where
  pub clear_read : Clear (refusals users roles words)
  pub word_count : n ≡ length words

module _ (users roles : ℕ) (words : List ℕ) where
  abbrev Says : PolicyRead → Type 0
  Says (Accepted n m) = IsRead users roles words n
  Says (Refused c) = (c ≡ code_at users roles words (code (refusals users roles words))) × (code (refusals users roles words) ≢ 0)

  says : Says (read_policy users roles words)
  unfolding read_policy
  says = go (eqb (code (refusals users roles words)) 0) refl
    where
      go : (b : Bool) → eqb (code (refusals users roles words)) 0 ≡ b
          → Says (cond b (Accepted (length words) (units_of (decode words))) (Refused (code_at users roles words (code (refusals users roles words)))))
      go true z = record {
        clear_read = clear (refusals users roles words) refl (eqb-true (code (refusals users roles words)) 0 z);
        word_count = refl;
      }
      go false z = (refl, eqb-false (code (refusals users roles words)) 0 z)

  pub read_accepted : (n m : ℕ) → read_policy users roles words ≡ Accepted n m → IsRead users roles words n
  read_accepted n m e = subst Says e says

  read_refused : (c : Code) → read_policy users roles words ≡ Refused c
      → (c ≡ code_at users roles words (code (refusals users roles words))) × (code (refusals users roles words) ≢ 0)
  read_refused c e = subst Says e says

module _ (o : Opening) where
  -- the refusals of the policy, and of the rows, the permissions and the workflow behind them
  abbrev pub policy-refusals : Refusals
  policy-refusals = refusals o.users o.roles o.words

  abbrev pub rows_refusal : Refusals
  rows_refusal = row_refusals o.users o.roles o.rows ++ secure_refusals o

  abbrev rows-test : Bool
  rows-test = rows_ok o.users o.roles o.rows

  abbrev secure-test : Bool
  secure-test = secure_ok o.roles o.permissions o.workflow

  -- the code of an opening
  pub code_refused : (c : Code) → read_policy o.users o.roles o.words ≡ Refused c → (c ≡ code_in o (open_code o)) × (open_code o ≢ 0)
  unfolding open_refusals
  code_refused c e =
      let r = read_refused o.users o.roles o.words c e in
      let f = code_front policy-refusals rows_refusal r.1 in
      (r.0 ∙ ap (code_in o) (sym f), λ z. r.1 (sym f ∙ z))

  -- behind the policy: 6, 19 or 0
  abbrev behind : Bool → Bool → ℕ
  behind r s = cond r (cond s 0 WORKFLOW) ROWS

  code-accepted : Clear policy-refusals → open_code o ≡ behind rows-test secure-test
  unfolding open_refusals
  code-accepted h = code-behind policy-refusals rows_refusal h ∙ by rows-test secure-test
    where
      by : (r s : Bool) → cond (not r) ROWS (cond (not s) WORKFLOW 0) ≡ behind r s
      by true true = refl
      by true false = refl
      by false s = refl

  -- none of them has a place
  pub code_plain : Clear policy-refusals → code_in o (open_code o) ≡ Plain (open_code o)
  unfolding code_at
  code_plain h = rw (code-accepted h) (by rows-test secure-test)
    where
      by : (r s : Bool) → code_in o (behind r s) ≡ Plain (behind r s)
      by true true = refl
      by true false = refl
      by false s = refl

  -- the configuration's number is the opening's, or 0 where permissions and workflow decide; where it is 0 the configuration is the opening's
  -- too
  configuration_code : Clear policy-refusals → (given_configuration o.users o.roles o.rows).code ≡ cond rows-test 0 ROWS
  unfolding given_configuration
  configuration_code h =
      let counts = not-false (count_ok o.users && count_ok o.roles) h.0 in
      by_test rows-test (λ p. rw (counts, p)) (λ p. rw (counts, p))

  -- a refusal by its number is 6, the opening's
  pub configuration_refused : Clear policy-refusals → (r : Refusal) → code_number (code_of r) ≡ (given_configuration o.users o.roles o.rows).code
      → (code_of r ≡ code_in o (open_code o)) × (open_code o ≢ 0)
  configuration_refused h r k = by_test rows-test (λ p. absurd (refusal-number r (k ∙ configuration_code h ∙ rw p)))
      (λ p.
      let six : code_number (code_of r) ≡ ROWS = k ∙ configuration_code h ∙ rw p in
      let n : open_code o ≡ ROWS = code-accepted h ∙ rw p in
      (refusal_plain r (rw six) ∙ ap Plain (six ∙ sym n) ∙ sym (code_plain h), λ z. absurd (omega (arith, sym n ∙ z))))

  pub code-secure : Clear policy-refusals → (given_configuration o.users o.roles o.rows).code ≡ 0 → open_code o ≡ cond secure-test 0 WORKFLOW
  code-secure h z = by_test rows-test (λ p. code-accepted h ∙ rw p) (λ p. let e : ROWS ≡ 0 = sym (configuration_code h ∙ rw p) ∙ z in absurd (omega arith))

  pub configuration_given : (given_configuration o.users o.roles o.rows).code ≡ 0
      → (given_configuration o.users o.roles o.rows).configuration ≡ configuration_of o.users o.roles o.rows
  unfolding given_configuration
  configuration_given e = rw e

  -- what an opening gives, by its number
  pub opening_refused : (c : Code) → c ≡ code_in o (open_code o) → open_code o ≢ 0 → record { code = c; monitor = blank } ≡ opening o
  unfolding opened
  opening_refused c e ne = rw (e, ne_eqb (open_code o) 0 ne)

  pub opening-accepted : open_code o ≡ 0 → record { code = Plain 0; monitor = fresh o } ≡ opening o
  unfolding opened code_at
  opening-accepted e = rw e

pub opened-is-fresh : OpenedIsFresh
unfolding opened
opened-is-fresh o e = rw e
