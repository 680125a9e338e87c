-- What a conversion answers and leaves, from what reading the words as a policy answers: `new` is what is to be written at the start of `out`.
use mathlib.Core.Path.{◌≡◌, refl, ◌∙◌}
use mathlib.Core.Logic.{◌≢◌}
use mathlib.Core.Bool.{cond}
use mathlib.Core.List.{List, [], ◌∷◌, ◌++◌}
use Prim.Native.Nat.{ℕ, ◌≤◌, ◌<◌}
use native.Mathlib.Omega.{arith}
use lib.Dec.{ltb, eqb}
use lib.ListN.{length, drop}
use borrow.Author.Tests.{eqb-true, eqb-false, ne_eqb, lt-ltb, le-ltb}
use Rattle.soda.proofs.Bools.{by_test}
use Rattle.policy.specs.Codes.{ACCEPTED, OUTPUT}
use Rattle.policy.specs.Refusals.{Refusals, ◌gives◌, code}
use Rattle.policy.specs.Words.{decode}
use Rattle.policy.specs.Faults.{code_at}
use Rattle.policy.specs.Reading.{refusals, units_of, read_policy}
use Rattle.policy.specs.Codes.{Code}
use Rattle.policy.specs.Codes.{Plain}
use Rattle.policy.specs.Reading as policy
use Rattle.policy.proofs.Refusals.{clear, code_front, code-behind}
use Rattle.text.specs.Reading.{Converted, Written, Refused, converted, laid}

module _ (users roles : ℕ) (ws new out : List ℕ) where
  -- 5, 1 to 4, then 13
  abbrev pub conversion_refusals : Refusals
  conversion_refusals = refusals users roles ws ++ ((ltb (length out) (length new) gives OUTPUT) ∷ [])

  abbrev j : ℕ
  j = code (refusals users roles ws)

  abbrev k : ℕ
  k = code conversion_refusals

  -- the answer and the output
  pub record Converts (r : Converted) (end : List ℕ) : Type 0 where
    pub answers : r ≡ converted users roles ws (length new) k
    pub leaves : end ≡ laid k new out

  -- the number decides
  refuses : (n : ℕ) → k ≡ n → n ≢ 0 → Converts (Refused (code_at users roles ws n)) out
  refuses n e ne = record { answers = rw (e, ne_eqb n 0 ne); leaves = rw (e, ne_eqb n 0 ne) }

  accepts : k ≡ 0 → Converts (Written (length new)) (new ++ drop (length new) out)
  accepts e = record { answers = rw e; leaves = rw e }

  -- a refused policy
  policy_refused : (c : Code) → read_policy users roles ws ≡ policy.Refused c → (j ≢ 0) × (code_at users roles ws j ≡ c)
  unfolding read_policy
  policy_refused c e = by_test (eqb j 0)
      (λ d. absurd (let z : policy.Accepted (length ws) (units_of (decode ws)) ≡ policy.Refused c = rw d at e in let y : ◌≡◌ {A = ℕ} 0 1 = cc in omega arith))
      λ d. (eqb-false j 0 d, let z : policy.Refused (code_at users roles ws j) ≡ policy.Refused c = rw d at e in cc)

  pub refused : (c : Code) → read_policy users roles ws ≡ policy.Refused c → Converts (Refused c) out
  refused c e =
      let r = policy_refused c e in
      rw (← r.1) (refuses j (code_front (refusals users roles ws) ((ltb (length out) (length new) gives OUTPUT) ∷ []) r.0) r.0)

  -- an accepted policy
  module _ (n m : ℕ) (e : read_policy users roles ws ≡ policy.Accepted n m) where
    policy_accepted : j ≡ 0
    unfolding read_policy
    policy_accepted = by_test (eqb j 0) (λ d. eqb-true j 0 d)
        λ d. absurd (let z : policy.Refused (code_at users roles ws j) ≡ policy.Accepted n m = rw d at e in let y : ◌≡◌ {A = ℕ} 0 1 = cc in omega arith)

    behind : k ≡ cond (ltb (length out) (length new)) OUTPUT ACCEPTED
    behind = code-behind (refusals users roles ws) ((ltb (length out) (length new) gives OUTPUT) ∷ []) (clear (refusals users roles ws) refl policy_accepted)

    pub no_room : length out < length new → Converts (Refused (Plain OUTPUT)) out
    unfolding code_at
    no_room h = refuses OUTPUT (behind ∙ rw (lt-ltb (length out) (length new) h)) (λ z. omega arith)

    pub written : length new ≤ length out → Converts (Written (length new)) (new ++ drop (length new) out)
    written h = accepts (behind ∙ rw (le-ltb (length out) (length new) h))
