-- What spreading makes of an accepted policy's words is a term's words, and it keeps the judgement and all but the length.
use mathlib.Core.Path.{◌≡◌, refl, sym, ◌∙◌, ap, subst, subst₂}
use mathlib.Core.Bool.{Bool, false, So, not, ◌&&◌, cond, and_comm}
use mathlib.Core.List.{List, ◌++◌}
use mathlib.Core.Option.{some}
use Prim.Native.Nat.{ℕ, ◌≤◌}
use lib.Dec.{leb}
use lib.ListN.{length}
use borrow.Author.Tests.{leb-true}
use Rattle.soda.specs.Terms.{Term}
use Rattle.soda.specs.Words.{fits}
use Rattle.soda.specs.Rewriting.{Rewrite, RuleSteps, WordRuleSteps}
use Rattle.soda.proofs.Bools.{by_test}
use Rattle.soda.proofs.Words.{encode-length}
use Rattle.soda.proofs.Rewriting.{rewrites_keep_form}
use Rattle.soda.proofs.WordRewriting.{rewrite_words_related, rewrite_leads_to_words}
use Rattle.soda.proofs.EqualForms.{declared-fits}
use Rattle.policy.specs.Codes.{ACCEPTED, WORD_COUNT}
use Rattle.policy.specs.Refusals.{code}
use Rattle.policy.specs.Words.{decode, term_of}
use Rattle.policy.specs.Reading.{count_ok, length_ok, is_term, is_formed, refusals, units_of, answer, read_policy}
use Rattle.policy.specs.Accepted.{IsPolicy}
use Rattle.policy.proofs.Refusals.{clear, clear_code, code-behind}
use Rattle.policy.proofs.Accepted.{read_is-encode, policy_in_layout, decode-is-term}
use Rattle.policy.proofs.Scanning.{counts_most}
use Rattle.configuration.specs.Configurations.{row_refusals}
use Rattle.monitor.specs.Monitors.{given, secure_refusals, open_refusals, open_code}
use Rattle.claims.specs.EqualForms.{IsAccepted}
use Rattle.claims.specs.Spreading.{Spreading, SpreadIsAccepted}
use Rattle.claims.proofs.Alike.{answered_alike}

-- the term that accepted words are
pub record Means (users roles : ℕ) (v : List ℕ) : Type 0 where
  pub φ : Term
  pub is : IsPolicy users roles v φ
  pub decoded : decode v ≡ some φ
  pub layout : So (fits φ)

pub means : (users roles : ℕ) (v : List ℕ) → IsAccepted users roles v → Means users roles v
unfolding read_policy
means users roles v e =
    let (φ, p, n, m) = (read_is-encode users roles v (length v) (units_of (decode v))).0 (ap (answer users roles v) e) in
    let c = counts_most users roles p.counts in
    record { φ = φ; is = p; decoded = decode-is-term users roles v φ p; layout = declared-fits users roles φ c.0 c.1 p.is_declared }

-- the words' terms are related where the words are
related : (users roles : ℕ) (v w : List ℕ) → Means users roles v → Means users roles w → WordRuleSteps Rewrite v w
    → RuleSteps Rewrite (term_of (decode v)) (term_of (decode w))
related users roles v w m n p = subst₂ (λ x y. RuleSteps Rewrite x y) (sym (ap term_of m.decoded)) (sym (ap term_of n.decoded))
    ((rewrite_words_related m.φ n.φ m.layout n.layout).0 (subst₂ (λ x y. WordRuleSteps Rewrite x y) m.is.written n.is.written p))

-- accepted policies leave the opening's number to the rest
same_number : (users roles : ℕ) (v w rows permissions workflow : List ℕ) → IsAccepted users roles v → IsAccepted users roles w
    → open_code (given users roles v rows permissions workflow) ≡ open_code (given users roles w rows permissions workflow)
unfolding open_refusals
same_number users roles v w rows permissions workflow e f = behind v e ∙ sym (behind w f)
  where
    rest : List (Bool × ℕ)
    rest = row_refusals users roles rows ++ secure_refusals (given users roles v rows permissions workflow)

    behind : (x : List ℕ) → IsAccepted users roles x → open_code (given users roles x rows permissions workflow) ≡ code rest
    behind x a = code-behind (refusals users roles x) rest (clear (refusals users roles x) refl a)

pub spreading : Spreading
spreading users roles v w e f p rows permissions workflow =
    answered_alike users roles v w rows permissions workflow (same_number users roles v w rows permissions workflow e f)
    (related users roles v w (means users roles v e) (means users roles w f) p)

pub spread-is-accepted : SpreadIsAccepted
spread-is-accepted users roles v w e p =
    let m = means users roles v e in
    let (ψ, s, written) = rewrite_leads_to_words m.φ w m.layout (subst (λ x. WordRuleSteps Rewrite x w) m.is.written p) in
    let k = rewrites_keep_form m.φ ψ s in
    by_test (leb (length w) 31)
    (λ short. accepted ψ (record {
      counts = m.is.counts;
      written = written;
      formed = sym k.same_formed ∙ m.is.formed;
      is_declared = sym (k.same_declared users roles) ∙ m.is.is_declared;
      short = subst (λ n. n ≤ 31) (ap length written ∙ encode-length ψ) (leb-true (length w) 31 short);
    }) ∙ sym (number short))
    (λ long. refused m.is.counts long ∙ sym (number long))
  where
    number : {b : Bool} → leb (length w) 31 ≡ b → cond (leb (length w) 31) ACCEPTED WORD_COUNT ≡ cond b ACCEPTED WORD_COUNT
    number e = ap (λ b. cond b ACCEPTED WORD_COUNT) e

    accepted : (ψ : Term) → IsPolicy users roles w ψ → code (refusals users roles w) ≡ ACCEPTED
    accepted ψ q =
        let r = policy_in_layout users roles w ψ q in
        let d = decode-is-term users roles w ψ q in
        clear_code (refusals users roles w)
        (ap not r.counts, (ap not r.long, (ap not r.layout, (ap (λ t. not (is_term t)) d, (ap (λ t. not (is_formed t)) d ∙ ap not q.formed, tt)))))

    refused : So (count_ok users && count_ok roles) → leb (length w) 31 ≡ false → code (refusals users roles w) ≡ WORD_COUNT
    refused counts long =
        let no : length_ok (length w) ≡ false = ap (λ b. leb 1 (length w) && b) long ∙ and_comm (leb 1 (length w)) false in
        rw (counts, no)
