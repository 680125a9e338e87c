-- What is written is the text of an accepted policy, and what is read is the words of one; writing what was read gives the bytes back.
use mathlib.Core.Path.{◌≡◌, refl, sym, ap, ◌∙◌}
use mathlib.Core.List.{List, ◌++◌}
use mathlib.Core.Option.{Option, some}
use Prim.Native.Nat.{ℕ, ◌≤◌, ◌<◌}
use native.Mathlib.Omega.{arith}
use borrow.Author.Tests.{eqb-true}
use lib.Dec.{eqb}
use lib.ListN.{length, take, drop}
use lib.Seq.{take_at}
use Rattle.soda.specs.Terms.{Term, size}
use Rattle.soda.specs.Words.{encode}
use Rattle.soda.proofs.Bools.{by_test}
use Rattle.soda.proofs.Words.{encode-length}
use Rattle.policy.specs.Codes.{ACCEPTED, OUTPUT}
use Rattle.policy.specs.Accepted.{IsPolicy}
use Rattle.policy.specs.Faults.{code_at}
use Rattle.policy.proofs.Accepted.{decode-is-term}
use Rattle.text.specs.Texts.{policy_text}
use Rattle.text.specs.Reading.{Written, Refused, term_of, words_of, word_refusals, read_code, converted, read_answer, read_out}
use Rattle.text.specs.Writing.{text_of, write_refusals, write_code, write_answer, write_out}
use Rattle.text.specs.Laws.{Named, WriteIsText, WriteThirteenIsLast, ReadThenWrite}
use Rattle.text.proofs.Policies.{policy_named, named_decodes, accepts, accepted, short, shortened}
use Rattle.text.proofs.Opened.{term_of_text, by_words}

-- ── an answer ──
module _ (users roles : ℕ) (ws : List ℕ) (count k : ℕ) where
  was_written : (n : ℕ) → converted users roles ws count k ≡ Written n → (k ≡ ACCEPTED) × (count ≡ n)
  was_written n e = by_test (eqb k ACCEPTED)
      (λ b. let z : Written count ≡ Written n = rw b at e in (eqb-true k ACCEPTED b, cc))
      λ b. absurd (let z : Refused (code_at users roles ws k) ≡ Written n = rw b at e in let y : ◌≡◌ {A = ℕ} 0 1 = cc in omega arith)

  pub is-written : k ≡ ACCEPTED → converted users roles ws count k ≡ Written count
  is-written e = rw e

-- ── what is written ──
module _ (users roles : ℕ) (ws : List ℕ) (φ : Term) (p : IsPolicy users roles ws φ) where
  text_of_policy : text_of ws ≡ policy_text φ
  unfolding text_of
  text_of_policy = rw (decode-is-term users roles ws φ p)

  write_accepts : (n : ℕ) → length (policy_text φ) ≤ n → write_code users roles ws n ≡ ACCEPTED
  unfolding write_refusals
  write_accepts n h = accepts users roles ws n (length (text_of ws)) φ p (rw text_of_policy h)

  -- at the start of the output
  written_out : (out : List ℕ) → length (policy_text φ) ≤ length out
      → write_out users roles ws out ≡ policy_text φ ++ drop (length (policy_text φ)) out
  unfolding write_out
  written_out out h = rw (write_accepts (length out) h, text_of_policy)

  pub written-text : (out : List ℕ) → length (policy_text φ) ≤ length out → take (length (policy_text φ)) (write_out users roles ws out) ≡ policy_text φ
  written-text out h =
      ap (take (length (policy_text φ))) (written_out out h)
      ∙ take_at (policy_text φ) (drop (length (policy_text φ)) out) (length (policy_text φ)) refl

  write_answers : (n : ℕ) → length (policy_text φ) ≤ n → write_answer users roles ws n ≡ Written (length (policy_text φ))
  write_answers n h = is-written users roles ws (length (text_of ws)) (write_code users roles ws n) (write_accepts n h) ∙ rw text_of_policy

  -- both, for a text that is given
  writes : (t out : List ℕ) → t ≡ policy_text φ → length t ≤ length out
      → (write_answer users roles ws (length out) ≡ Written (length t)) × (write_out users roles ws out ≡ t ++ drop (length t) out)
  writes t out e h = let fits : length (policy_text φ) ≤ length out = rw e at h in rw e (write_answers (length out) fits, written_out out fits)

pub write_is-text : WriteIsText
unfolding write_refusals
write_is-text users roles ws n k = (to, back)
  where
    to : write_answer users roles ws n ≡ Written k
        → (φ : Term) × IsPolicy users roles ws φ × (k ≡ length (policy_text φ)) × (length (policy_text φ) ≤ n)
    to e =
        let (c, l) = was_written users roles ws (length (text_of ws)) (write_code users roles ws n) k e in
        let (r, h) = accepted users roles ws n (length (text_of ws)) c in
        let t = text_of_policy users roles ws r.0 r.1 in
        (r.0, r.1, sym l ∙ ap length t, rw t at h)

    back : ((φ : Term) × IsPolicy users roles ws φ × (k ≡ length (policy_text φ)) × (length (policy_text φ) ≤ n))
        → write_answer users roles ws n ≡ Written k
    back (φ, p, e, h) = write_answers users roles ws φ p n h ∙ ap Written (sym e)

pub write_thirteen_is-last : WriteThirteenIsLast
unfolding write_refusals
write_thirteen_is-last users roles ws n = (to, back)
  where
    to : write_code users roles ws n ≡ OUTPUT → (φ : Term) × IsPolicy users roles ws φ × (n < length (policy_text φ))
    to e =
        let (r, h) = shortened users roles ws n (length (text_of ws)) e in
        (r.0, r.1, rw (text_of_policy users roles ws r.0 r.1) at h)

    back : ((φ : Term) × IsPolicy users roles ws φ × (n < length (policy_text φ))) → write_code users roles ws n ≡ OUTPUT
    back (φ, p, h) = short users roles ws n (length (text_of ws)) φ p (rw (text_of_policy users roles ws φ p) h)

-- ── what is read ──
-- an accepted policy whose words are those of φ is φ
only : (users roles : ℕ) (φ ψ : Term) → Named φ → IsPolicy users roles (encode φ) ψ → IsPolicy users roles (encode φ) φ
only users roles φ ψ d p =
    let one : some ψ ≡ some φ = sym (decode-is-term users roles (encode φ) ψ p) ∙ named_decodes φ d in
    let same : ψ ≡ φ = cc in
    rw same at p

-- the text of an accepted policy
pub read_policy_lem : (users roles : ℕ) (t : List ℕ) (n k : ℕ) → read_answer users roles t n ≡ Written k
    → (φ : Term) × IsPolicy users roles (encode φ) φ × (t ≡ policy_text φ) × (k ≡ size φ) × (size φ ≤ n)
unfolding word_refusals
read_policy_lem users roles t n k e =
    let (c, l) = was_written users roles (words_of (term_of t)) (length (words_of (term_of t))) (read_code users roles t n) k e in
    let (φ, d, q, w) = by_words users roles t n (omega arith) in
    let (r, h) = accepted users roles (encode φ) n (length (encode φ)) (sym w ∙ c) in
    let words : term_of t ≡ some φ = ap term_of q ∙ term_of_text φ d in
    (φ, only users roles φ r.0 d r.1, q, sym l ∙ ap (λ (o : Option Term). length (words_of o)) words ∙ encode-length φ, rw (encode-length φ) at h)

-- the same, where the output is too short for its words
pub read_short : (users roles : ℕ) (t : List ℕ) (n : ℕ) → read_code users roles t n ≡ OUTPUT
    → (φ : Term) × IsPolicy users roles (encode φ) φ × (t ≡ policy_text φ) × (n < size φ)
unfolding word_refusals
read_short users roles t n e =
    let (φ, d, q, w) = by_words users roles t n (omega arith) in
    let (r, h) = shortened users roles (encode φ) n (length (encode φ)) (sym w ∙ e) in
    (φ, only users roles φ r.0 d r.1, q, rw (encode-length φ) at h)

-- its words, at the start of the output
pub read_out_lem : (users roles : ℕ) (φ : Term) (out : List ℕ) → Named φ → read_code users roles (policy_text φ) (length out) ≡ ACCEPTED
    → read_out users roles (policy_text φ) out ≡ encode φ ++ drop (length (encode φ)) out
unfolding read_out
read_out_lem users roles φ out d e = rw (e, term_of_text φ d)

-- ── there and back ──
pub read_then_write : ReadThenWrite
read_then_write users roles t words bytes k e room =
    let (c, l) = was_written users roles (words_of (term_of t)) (length (words_of (term_of t))) (read_code users roles t (length words)) k e in
    let (φ, p, q, s, h) = read_policy_lem users roles t (length words) k e in
    let d = policy_named users roles (encode φ) φ p in
    let out = ap (λ (s : List ℕ). read_out users roles s words) q ∙ read_out_lem users roles φ words d (rw q at c) in
    let first = ap (take k) out ∙ take_at (encode φ) (drop (length (encode φ)) words) k (encode-length φ ∙ sym s) in
    rw first (writes users roles (encode φ) φ p t bytes q room)
