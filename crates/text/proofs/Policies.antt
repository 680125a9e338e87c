-- Accepted policies: their terms have texts, and they are those that no refusal of 5 and 1 to 4 meets.
use mathlib.Core.Path.{◌≡◌, refl, sym, ap, ◌∙◌}
use mathlib.Core.Bool.{Bool, true, false, So, not, ◌||◌, cond, or-false}
use mathlib.Core.List.{List, [], ◌∷◌, ◌++◌}
use mathlib.Core.Option.{some}
use Prim.Native.Nat.{ℕ, ◌^◌, ◌≤◌, ◌<◌}
use native.Mathlib.Omega.{arith}
use borrow.Author.Tests.{le-ltb, ltb-true, ltb-false, lt-ltb, eqb-true, eqb-false}
use lib.Dec.{ltb, eqb}
use lib.ListN.{length}
use lib.Pow.{pow_mono}
use Rattle.soda.specs.Lists.{all}
use Rattle.soda.specs.Terms.{Term, everyone, role, set, ¬ᵗ◌, ◌⁺, bin}
use Rattle.soda.specs.Words.{encode, declared}
use Rattle.soda.proofs.Bools.{by_test, and_split, and-join}
use Rattle.soda.proofs.Words.{declared-fits}
use Rattle.policy.specs.Codes.{ACCEPTED, OUTPUT}
use Rattle.policy.specs.Refusals.{Refusals, ◌gives◌, code, Clear}
use Rattle.policy.specs.Accepted.{IsPolicy}
use Rattle.policy.specs.Words.{decode}
use Rattle.policy.specs.Reading.{refusals, units_of, read_policy}
use Rattle.policy.specs.Reading.{Accepted}
use Rattle.policy.proofs.Refusals.{clear, clear_code, code_front, code-behind, clear_front, clear_behind}
use Rattle.policy.proofs.Scanning.{counts_most}
use Rattle.policy.proofs.Accepted.{decodes, read_is-encode, policy_in_layout, decode-is-term}
use Rattle.text.specs.Laws.{Named}

-- ── names ──
-- what is declared stays so with more users and roles
declared-more : (u r v s : ℕ) (φ : Term) → u ≤ v → r ≤ s → So (declared u r φ) → So (declared v s φ)
declared-more u r v s everyone h k d = refl
declared-more u r v s (role x) h k d = lt-ltb x s (omega (arith, ltb-true x r d))
declared-more u r v s (set m) h k d =
    let (x, y) = and_split (not (eqb m 0)) (ltb m (2 ^ u)) d in
    and-join (not (eqb m 0)) (ltb m (2 ^ v)) x (lt-ltb m (2 ^ v) (omega (arith, ltb-true m (2 ^ u) y, pow_mono h)))
declared-more u r v s (¬ᵗ φ) h k d = declared-more u r v s φ h k d
declared-more u r v s (φ ⁺) h k d = declared-more u r v s φ h k d
declared-more u r v s (bin op φ ψ) h k d =
    let (x, y) = and_split (declared u r φ) (declared u r ψ) d in
    and-join (declared v s φ) (declared v s ψ) (declared-more u r v s φ h k x) (declared-more u r v s ψ h k y)

pub policy_named : (users roles : ℕ) (ws : List ℕ) (φ : Term) → IsPolicy users roles ws φ → Named φ
policy_named users roles ws φ p =
    let (h, k) = counts_most users roles p.counts in
    declared-more users roles 16 16 φ h k p.is_declared

pub named_decodes : (φ : Term) → Named φ → decode (encode φ) ≡ some φ
named_decodes φ d = decodes (encode φ) φ (record { written = refl; fit = declared-fits 16 16 φ (omega arith) (omega arith) d })

-- ── numbers ──
-- what holds of acceptance, and of the number of each refusal that applies, holds of the code
pub code_keeps : (P : ℕ → Bool) (l : Refusals) → So (P ACCEPTED) → So (all (λ r. P r.1 || not r.0) l) → So (P (code l))
code_keeps P [] h a = h
code_keeps P ((true, k) ∷ l) h a =
    let (x, y) = and_split (P k || false) (all (λ r. P r.1 || not r.0) l) a in
    sym (or-false (P k)) ∙ x
code_keeps P ((false, k) ∷ l) h a = code_keeps P l h (and_split (P k || true) (all (λ r. P r.1 || not r.0) l) a).1

-- ── no refusal ──
module _ (users roles : ℕ) (ws : List ℕ) where
  policy_clear : (φ : Term) → IsPolicy users roles ws φ → Clear (refusals users roles ws)
  policy_clear φ p =
      let l = policy_in_layout users roles ws φ p in
      rw (decode-is-term users roles ws φ p) (ap not l.counts, (ap not l.long, (ap not l.layout, (refl, (ap not p.formed, tt)))))

  clear_policy : Clear (refusals users roles ws) → (φ : Term) × IsPolicy users roles ws φ
  unfolding read_policy
  clear_policy h =
      let e : read_policy users roles ws ≡ Accepted (length ws) (units_of (decode ws)) = rw (clear_code (refusals users roles ws) h) in
      let r = (read_is-encode users roles ws (length ws) (units_of (decode ws))).0 e in
      (r.0, r.1)

  -- 5 and 1 to 4, then 13
  module _ (n count : ℕ) where
    abbrev last : Refusals
    last = (ltb n count gives OUTPUT) ∷ []

    pub accepts : (φ : Term) → IsPolicy users roles ws φ → count ≤ n → code (refusals users roles ws ++ last) ≡ ACCEPTED
    accepts φ p h = code-behind (refusals users roles ws) last (policy_clear φ p) ∙ rw (le-ltb n count h)

    pub accepted : code (refusals users roles ws ++ last) ≡ ACCEPTED → ((φ : Term) × IsPolicy users roles ws φ) × (count ≤ n)
    accepted e =
        let h = clear (refusals users roles ws ++ last) refl e in
        (clear_policy (clear_front (refusals users roles ws) last h), ltb-false n count (clear_behind (refusals users roles ws) last h).0)

    -- 13 is given behind all others
    pub short : (φ : Term) → IsPolicy users roles ws φ → n < count → code (refusals users roles ws ++ last) ≡ OUTPUT
    short φ p h = code-behind (refusals users roles ws) last (policy_clear φ p) ∙ rw (lt-ltb n count h)

    pub shortened : code (refusals users roles ws ++ last) ≡ OUTPUT → ((φ : Term) × IsPolicy users roles ws φ) × (n < count)
    shortened e = by_test (eqb k ACCEPTED)
        (λ b.
        let h = clear (refusals users roles ws) refl (eqb-true k ACCEPTED b) in
        let c : cond (ltb n count) OUTPUT ACCEPTED ≡ OUTPUT = sym (code-behind (refusals users roles ws) last h) ∙ e in
        (clear_policy h, by_test (ltb n count) (ltb-true n count) λ d. absurd (let z : ACCEPTED ≡ OUTPUT = rw d at c in omega arith)))
        λ b. absurd (let f = code_front (refusals users roles ws) last (eqb-false k ACCEPTED b) in let l = others in omega arith)
      where
        k : ℕ
        k = code (refusals users roles ws)

        others : code (refusals users roles ws) < 6
        others = ltb-true (code (refusals users roles ws)) 6 (code_keeps (λ x. ltb x 6) (refusals users roles ws) refl refl)
