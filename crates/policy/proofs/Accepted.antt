-- Reading is the inverse of `encode`: what each answer says of the words.
use Rattle.std.proofs.Common.{◌≡◌, ℕ, false, not, ◌&&◌, leb, List, [], ◌∷◌, length, sym, refl, ap, ◌∙◌, ap₂, append-nil, arith, le-leb}
use mathlib.Core.Bool.{So}
use mathlib.Core.Option.{Option, some, none}
use Rattle.soda.specs.Lists.{all, first_failing}
use Rattle.soda.specs.Terms.{Term, unit, well_formed, size, subterms, marks}
use Rattle.soda.specs.Words.{encode}
use Rattle.soda.proofs.Bools.{by_test, and-join}
use Rattle.soda.proofs.Terms.{size_pos}
use Rattle.soda.proofs.Words.{encode-length, declared-fits}
use Rattle.policy.specs.Codes.{WORD_COUNT, WORD, TERM, UNIT, COUNTS}
use Rattle.policy.specs.Words.{word_ok, first, decode}
use Rattle.policy.specs.Faults.{left_over, over_unit, code_at}
use Rattle.policy.specs.Reading.{count_ok, length_ok, is_term, is_formed, answer, read_policy, number_of}
use Rattle.policy.specs.Refusals.{Refusals, ◌gives◌, code}
use Rattle.policy.specs.Accepted.{WordsOf, DecodeIsEncode, InLayout, ThreeIsNoTerm, FourIsNotFormed, IsPolicy, PolicyInLayout, PolicyIsWords, ReadIsEncode, TermIsOne, DecodeIsTerm}
use Rattle.policy.specs.Codes.{Code}
use Rattle.policy.specs.Codes.{Fault, Plain}
use Rattle.policy.specs.Reading.{PolicyRead}
use Rattle.policy.specs.Reading.{Accepted, Refused}
use Rattle.policy.proofs.Grammar.{begins_whole, decode_whole}
use Rattle.policy.proofs.Scanning.{length-range, counts_most}
use Rattle.policy.proofs.Encoding.{spelt, fits_begins, begins_encode, encode_ok}

-- ── words and terms ──
pub decodes : (ws : List ℕ) (φ : Term) → WordsOf φ ws → decode ws ≡ some φ
decodes ws φ p = ap decode (p.written ∙ sym (append-nil (encode φ))) ∙ decode_whole (begins_encode φ [] p.fit)

pub decode-is-encode : DecodeIsEncode
decode-is-encode users roles ws φ ok = (
  λ e. let b = begins_whole ws φ e in record { written = (spelt users roles b ok).words ∙ append-nil (encode φ); fit = fits_begins b },
  decodes ws φ,
)

-- ── the answers ──
abbrev pub last_refusals : Option Term → Refusals
last_refusals x = (not (is_term x) gives TERM) ∷ (not (is_formed x) gives UNIT) ∷ []

module _ (users roles : ℕ) (ws : List ℕ) where
  -- in the layout, the last two tests decide
  last-two : InLayout users roles ws → read_policy users roles ws ≡ answer users roles ws (code (last_refusals (decode ws)))
  unfolding read_policy
  last-two p = rw (p.counts, p.long, p.layout)

  -- what each answer says of the words
  pub data Read : PolicyRead → Type 0 where
    miscounted : (count_ok users && count_ok roles) ≡ false → Read (Refused (Plain COUNTS))
    too_long : So (count_ok users && count_ok roles) → length_ok (length ws) ≡ false → Read (Refused (Fault WORD_COUNT 0))
    bad-word : So (count_ok users && count_ok roles) → So (length_ok (length ws)) → all (word_ok users roles) ws ≡ false
        → Read (Refused (Fault WORD (first_failing (word_ok users roles) ws)))
    no_term_lem : InLayout users roles ws → decode ws ≡ none → Read (Refused (Fault TERM (left_over (first ws) (length ws))))
    not-formed : {φ : Term} → InLayout users roles ws → decode ws ≡ some φ → well_formed φ ≡ false
        → Read (Refused (Fault UNIT (first_failing over_unit (subterms φ))))
    formed : {φ : Term} → InLayout users roles ws → decode ws ≡ some φ → So (well_formed φ) → Read (Accepted (length ws) (marks unit φ))

  pub is_miscounted : (count_ok users && count_ok roles) ≡ false → read_policy users roles ws ≡ Refused (Plain COUNTS)
  unfolding read_policy code_at
  is_miscounted a = rw a

  module _ (a : So (count_ok users && count_ok roles)) where
    pub is-long : length_ok (length ws) ≡ false → read_policy users roles ws ≡ Refused (Fault WORD_COUNT 0)
    unfolding read_policy code_at
    is-long b = rw (a, b)

    pub is-bad : So (length_ok (length ws)) → all (word_ok users roles) ws ≡ false
        → read_policy users roles ws ≡ Refused (Fault WORD (first_failing (word_ok users roles) ws))
    unfolding read_policy code_at
    is-bad b c = rw (a, b, c)

  module _ (p : InLayout users roles ws) where
    pub is_none : decode ws ≡ none → read_policy users roles ws ≡ Refused (Fault TERM (left_over (first ws) (length ws)))
    unfolding code_at
    is_none e = last-two p ∙ rw e

    module _ (φ : Term) (e : decode ws ≡ some φ) where
      pub is_ill : well_formed φ ≡ false → read_policy users roles ws ≡ Refused (Fault UNIT (first_failing over_unit (subterms φ)))
      unfolding code_at
      is_ill f = last-two p ∙ rw (e, f)

      pub is_formed_lem : So (well_formed φ) → read_policy users roles ws ≡ Accepted (length ws) (marks unit φ)
      is_formed_lem f = last-two p ∙ rw (e, f)

    by_term : (x : Option Term) → decode ws ≡ x → Read (read_policy users roles ws)
    by_term none e = rw (is_none e) (no_term_lem p e)
    by_term (some φ) e = by_test (well_formed φ) (λ f. rw (is_formed_lem φ e f) (formed p e f)) λ f. rw (is_ill φ e f) (not-formed p e f)

  pub reads : Read (read_policy users roles ws)
  reads =
      by_test (count_ok users && count_ok roles)
      (λ a. by_test (length_ok (length ws))
      (λ b. by_test (all (word_ok users roles) ws)
      (λ c. by_term (record { counts = a; long = b; layout = c }) (decode ws) refl)
      λ c. rw (is-bad a b c) (bad-word a b c))
      λ b. rw (is-long a b) (too_long a b))
      λ a. rw (is_miscounted a) (miscounted a)

  never : {P : Type 0} {c : Code} {n m : ℕ} → Refused c ≡ Accepted n m → P
  never q = absurd (let z : ◌≡◌ {A = ℕ} 0 1 = cc in omega arith)

  read_none : {r : PolicyRead} → Read r → number_of r ≡ TERM → InLayout users roles ws × (decode ws ≡ none)
  read_none (miscounted a) q = absurd (omega arith)
  read_none (too_long a b) q = absurd (omega arith)
  read_none (bad-word a b c) q = absurd (omega arith)
  read_none (no_term_lem p e) q = (p, e)
  read_none (not-formed p e f) q = absurd (omega arith)
  read_none (formed p e f) q = absurd (omega arith)

  read_ill : {r : PolicyRead} → Read r → number_of r ≡ UNIT → (φ : Term) × InLayout users roles ws × (decode ws ≡ some φ) × (well_formed φ ≡ false)
  read_ill (miscounted a) q = absurd (omega arith)
  read_ill (too_long a b) q = absurd (omega arith)
  read_ill (bad-word a b c) q = absurd (omega arith)
  read_ill (no_term_lem p e) q = absurd (omega arith)
  read_ill (not-formed {φ} p e f) q = (φ, p, e, f)
  read_ill (formed p e f) q = absurd (omega arith)

  read_formed : {r : PolicyRead} {n m : ℕ} → Read r → r ≡ Accepted n m
      → (φ : Term) × InLayout users roles ws × (decode ws ≡ some φ) × So (well_formed φ) × (length ws ≡ n) × (marks unit φ ≡ m)
  read_formed (miscounted a) q = never q
  read_formed (too_long a b) q = never q
  read_formed (bad-word a b c) q = never q
  read_formed (no_term_lem p e) q = never q
  read_formed (not-formed p e f) q = never q
  read_formed (formed {φ} p e f) q = (φ, p, e, f, cc, cc)

-- ── 3 and 4 ──
pub three_is_no_term : ThreeIsNoTerm
three_is_no_term users roles ws = (to, back)
  where
    to : number_of (read_policy users roles ws) ≡ TERM → InLayout users roles ws × ((φ : Term) → WordsOf φ ws → ⊥)
    to e =
        let r = read_none users roles ws (reads users roles ws) e in
        (r.0, λ φ w. let z : none ≡ some φ = sym r.1 ∙ decodes ws φ w in let y : ◌≡◌ {A = ℕ} 0 1 = cc in omega arith)

    back : InLayout users roles ws × ((φ : Term) → WordsOf φ ws → ⊥) → number_of (read_policy users roles ws) ≡ TERM
    back h = ap number_of (is_none users roles ws h.0 (go (decode ws) refl))
      where
        go : (x : Option Term) → decode ws ≡ x → decode ws ≡ none
        go none e = e
        go (some φ) e = absurd (h.1 φ ((decode-is-encode users roles ws φ h.0.layout).0 e))

pub four_is-not-formed : FourIsNotFormed
four_is-not-formed users roles ws = (to, back)
  where
    to : number_of (read_policy users roles ws) ≡ UNIT → ((φ : Term) × InLayout users roles ws × WordsOf φ ws × (well_formed φ ≡ false))
    to e =
        let r = read_ill users roles ws (reads users roles ws) e in
        (r.0, r.1, (decode-is-encode users roles ws r.0 r.1.layout).0 r.2, r.3)

    back : ((φ : Term) × InLayout users roles ws × WordsOf φ ws × (well_formed φ ≡ false)) → number_of (read_policy users roles ws) ≡ UNIT
    back h = ap number_of (is_ill users roles ws h.1 h.0 (decodes ws h.0 h.2) h.3)

-- ── accepted policies ──
pub policy-is-words : PolicyIsWords
policy-is-words users roles ws φ p =
    let c = counts_most users roles p.counts in
    record { written = p.written; fit = declared-fits users roles φ c.0 c.1 p.is_declared }

module _ (users roles : ℕ) (ws : List ℕ) (φ : Term) (p : IsPolicy users roles ws φ) where
  policy-length : length ws ≡ size φ
  policy-length = ap length p.written ∙ encode-length φ

pub policy_in_layout : PolicyInLayout
policy_in_layout users roles ws φ p =
    let c = counts_most users roles p.counts in
    let n = policy-length users roles ws φ p in
    let ok = encode_ok users roles c.0 c.1 φ [] p.is_declared refl in
    record {
      counts = p.counts;
      long = and-join (leb 1 (length ws)) (leb (length ws) 31)
          (le-leb 1 (length ws) (omega (arith, n, size_pos φ))) (le-leb (length ws) 31 (omega (arith, n, p.short)));
      layout = ap (all (word_ok users roles)) (p.written ∙ sym (append-nil (encode φ))) ∙ ok;
    }

pub decode-is-term : DecodeIsTerm
decode-is-term users roles ws φ p = decodes ws φ (policy-is-words users roles ws φ p)

pub term-is-one : TermIsOne
term-is-one users roles ws φ ψ p q = let z : some φ ≡ some ψ = sym (decode-is-term users roles ws φ p) ∙ decode-is-term users roles ws ψ q in cc

pub read_is-encode : ReadIsEncode
read_is-encode users roles ws n m = (to, back)
  where
    to : read_policy users roles ws ≡ Accepted n m → (φ : Term) × IsPolicy users roles ws φ × (n ≡ size φ) × (m ≡ marks unit φ)
    to e =
        let r = read_formed users roles ws (reads users roles ws) e in
        let φ = r.0 in
        let p = r.1 in
        let s = spelt users roles (begins_whole ws φ r.2) p.layout in
        let w : ws ≡ encode φ = s.words ∙ append-nil (encode φ) in
        let l : length ws ≡ size φ = ap length w ∙ encode-length φ in
        let b = length-range (length ws) p.long in (
          φ,
          record { counts = p.counts; written = w; formed = r.3; is_declared = s.names; short = omega arith },
          sym r.4 ∙ l,
          sym r.5,
        )

    back : ((φ : Term) × IsPolicy users roles ws φ × (n ≡ size φ) × (m ≡ marks unit φ)) → read_policy users roles ws ≡ Accepted n m
    back h =
        let φ = h.0 in
        let p = h.1 in
        is_formed_lem users roles ws (policy_in_layout users roles ws φ p) φ (decode-is-term users roles ws φ p) p.formed
        ∙ ap₂ Accepted (policy-length users roles ws φ p ∙ sym h.2) (sym h.3)
