-- What is read is the text of an accepted policy, each of which is short enough; reading what was written gives the words back.
use mathlib.Core.Path.{◌≡◌, sym, ap, ◌∙◌}
use mathlib.Core.List.{List, ◌++◌}
use Prim.Native.Nat.{ℕ, ◌≤◌, ◌<◌}
use native.Mathlib.Omega.{arith}
use lib.ListN.{length, drop}
use Rattle.soda.specs.Terms.{Term, size}
use Rattle.soda.specs.Words.{encode}
use Rattle.soda.proofs.Words.{encode-length}
use Rattle.policy.specs.Codes.{ACCEPTED, OUTPUT}
use Rattle.policy.specs.Refusals.{code}
use Rattle.policy.specs.Accepted.{IsPolicy}
use Rattle.text.specs.Texts.{policy_text}
use Rattle.text.specs.Reading.{Written, term_of, words_of, word_refusals, read_code, read_answer, read_out}
use Rattle.text.specs.Laws.{ReadIsText, ReadThirteenIsLast, WriteThenRead, WrittenHasText}
use Rattle.text.proofs.Policies.{policy_named, accepts, short}
use Rattle.text.proofs.Lengths.{text-fits}
use Rattle.text.proofs.Opened.{term_of_text, read_is-words}
use Rattle.text.proofs.Answers.{is-written, write_is-text, written-text, read_policy_lem, read_short, read_out_lem}

module _ (users roles : ℕ) (ws : List ℕ) (φ : Term) (p : IsPolicy users roles ws φ) where
  -- the words decide, whatever the counts and the output
  read_words : (u r n : ℕ) → read_code u r (policy_text φ) n ≡ code (word_refusals u r ws n)
  read_words u r n =
      read_is-words u r φ n (policy_named users roles ws φ p) (omega (arith, text-fits users roles ws φ p))
      ∙ ap (λ (l : List ℕ). code (word_refusals u r l n)) (sym p.written)

  read_accepts : (n : ℕ) → length ws ≤ n → read_code users roles (policy_text φ) n ≡ ACCEPTED
  unfolding word_refusals
  read_accepts n h = read_words users roles n ∙ accepts users roles ws n (length ws) φ p h

  read_answers : (n : ℕ) → length ws ≤ n → read_answer users roles (policy_text φ) n ≡ Written (length ws)
  read_answers n h =
      let words = words_of (term_of (policy_text φ)) in
      is-written users roles words (length words) (read_code users roles (policy_text φ) n) (read_accepts n h)
      ∙ rw (term_of_text φ (policy_named users roles ws φ p), p.written)

  read_lays : (out : List ℕ) → length ws ≤ length out → read_out users roles (policy_text φ) out ≡ ws ++ drop (length ws) out
  read_lays out h = read_out_lem users roles φ out (policy_named users roles ws φ p) (read_accepts (length out) h) ∙ rw p.written

pub read_thirteen_is-last : ReadThirteenIsLast
unfolding word_refusals
read_thirteen_is-last users roles t n = (read_short users roles t n, back)
  where
    back : ((φ : Term) × IsPolicy users roles (encode φ) φ × (t ≡ policy_text φ) × (n < size φ)) → read_code users roles t n ≡ OUTPUT
    back (φ, p, q, h) =
        ap (λ (s : List ℕ). read_code users roles s n) q ∙ read_words users roles (encode φ) φ p users roles n
        ∙ short users roles (encode φ) n (length (encode φ)) φ p (omega (arith, encode-length φ))

pub read_is-text : ReadIsText
read_is-text users roles t n k = (read_policy_lem users roles t n k, back)
  where
    back : ((φ : Term) × IsPolicy users roles (encode φ) φ × (t ≡ policy_text φ) × (k ≡ size φ) × (size φ ≤ n))
        → read_answer users roles t n ≡ Written k
    back (φ, p, q, s, h) = rw (q, s) (read_answers users roles (encode φ) φ p n (rw (encode-length φ) h) ∙ ap Written (encode-length φ))

pub write_then_read : WriteThenRead
write_then_read users roles ws bytes words k e room =
    let (φ, p, l, h) = (write_is-text users roles ws (length bytes) k).0 e in
    rw (l, written-text users roles ws φ p bytes h)
    (read_answers users roles ws φ p (length words) room, read_lays users roles ws φ p words room)

pub written_has_text : WrittenHasText
written_has_text users roles ws bytes k u r n e =
    let (φ, p, l, h) = (write_is-text users roles ws (length bytes) k).0 e in
    rw (l, written-text users roles ws φ p bytes h) (read_words users roles ws φ p u r n)
