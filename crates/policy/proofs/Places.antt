-- What each refusal's place says of the words.
use Rattle.std.proofs.Common.{◌≡◌, ℕ, zero, suc, ◌+◌, ◌<◌, ◌≤◌, Bool, false, ◌&&◌, eqb, leb, ◌⊎◌, List, [], ◌∷◌, ◌++◌, length, take, drop, replicate, sym, refl, ap, ◌∙◌, inl, inr, true≢false, arith, length-append, take-append-drop, eq-eqb, eqb-true, le-leb}
use mathlib.Core.Bool.{So, and-false}
use mathlib.Core.Option.{Option, some, none}
use lib.Seq.{take-append_seam, take-append-le}
use borrow.Author.Tests.{lt-leb}
use Rattle.soda.specs.Lists.{all, first_failing}
use Rattle.soda.specs.Terms.{Term, everyone, role, set, ¬ᵗ◌, ◌⁺, bin, unit, well_formed, size, subterms}
use Rattle.soda.specs.Words.{word, encode, fits}
use Rattle.soda.proofs.Bools.{never, by_test, and_split, and-join, lt_or_le}
use Rattle.soda.proofs.Splits.{all_append, all_replicate}
use Rattle.soda.proofs.Lists.{failing_most, one_fails, fails_inside, first_fails, failing_stays, first-is-first}
use Rattle.soda.proofs.Terms.{subterms-length}
use Rattle.policy.specs.Codes.{WORD_COUNT, WORD, TERM, UNIT}
use Rattle.policy.specs.Words.{kind, operand, kind_of, word_ok, head, push, row, first, decode}
use Rattle.policy.specs.Faults.{left_over, over_unit, is_fault, code_at}
use Rattle.policy.specs.Refusals.{code}
use Rattle.policy.specs.Reading.{count_ok, length_ok, is_term, refusals, read_policy}
use Rattle.policy.specs.Accepted.{InLayout, WordsOf}
use Rattle.policy.specs.Places.{OneIsAtStart, FirstBad, TwoIsFirst, TermEnds, more, runs_out, ThreeIsBehind, FirstNotOver, FourIsFirst, RunOutIsUnfinished, FormedIsOver, PlaceInRange, TwoStays, AcceptedIsFaultless, CountsHaveNone, CodeHasNumber, FaultsHaveOne, OthersHaveNone, CodeOfRead}
use Rattle.policy.specs.Codes.{Fault}
use Rattle.policy.specs.Reading.{PolicyRead}
use Rattle.policy.specs.Reading.{Accepted, Refused}
use Rattle.policy.proofs.Layouts.{no_kind}
use Rattle.policy.proofs.Grammar.{Row, row1, row2, row3, row4, row5, row_op, row_of, push_op, decode-first, Begins, row_begins, begins, no, decode_missing, decode_whole, decode-more}
use Rattle.policy.proofs.Scanning.{length-range}
use Rattle.policy.proofs.Encoding.{spelt, fits_begins, begins_encode}
use Rattle.policy.proofs.Accepted.{decodes, decode-is-encode, Read, miscounted, too_long, bad-word, no_term_lem, not-formed, formed, reads, is_miscounted, is-long, is-bad, is_none, is_ill}
use Rattle.policy.proofs.Faults.{left-over_most, length_decoded}

-- ── a policy's faults ──
module _ (users roles : ℕ) (ws : List ℕ) where
  abbrev ok : ℕ → Bool
  ok = word_ok users roles

  -- what a fault says of the words, by its number
  data Faulty (k p : ℕ) : Type 0 where
    one : k ≡ WORD_COUNT → p ≡ 0 → So (count_ok users && count_ok roles) → length_ok (length ws) ≡ false → Faulty k p
    two : k ≡ WORD → p ≡ first_failing ok ws → So (count_ok users && count_ok roles) → So (length_ok (length ws)) → all ok ws ≡ false → Faulty k p
    three : k ≡ TERM → p ≡ left_over (first ws) (length ws) → InLayout users roles ws → decode ws ≡ none → Faulty k p
    four : {φ : Term} → k ≡ UNIT → p ≡ first_failing over_unit (subterms φ) → InLayout users roles ws → decode ws ≡ some φ
        → well_formed φ ≡ false → Faulty k p

  faulty : {r : PolicyRead} {k p : ℕ} → Read users roles ws r → r ≡ Refused (Fault k p) → Faulty k p
  faulty (miscounted a) q = absurd (let z : ◌≡◌ {A = ℕ} 0 1 = cc in omega arith)
  faulty (too_long a b) q = one (cc) (cc) a b
  faulty (bad-word a b c) q = two (cc) (cc) a b c
  faulty (no_term_lem i e) q = three (cc) (cc) i e
  faulty (not-formed {φ} i e f) q = four {φ = φ} (cc) (cc) i e f
  faulty (formed i e f) q = absurd (let z : ◌≡◌ {A = ℕ} 0 1 = cc in omega arith)

  fault : {k p : ℕ} → read_policy users roles ws ≡ Refused (Fault k p) → Faulty k p
  fault q = faulty (reads users roles ws) q

pub one-is_at_start : OneIsAtStart
one-is_at_start users roles ws p = (λ q. to (fault users roles ws q), λ h. is-long users roles ws h.0 h.1 ∙ ap (λ n. Refused (Fault WORD_COUNT n)) (sym h.2))
  where
    to : Faulty users roles ws WORD_COUNT p → So (count_ok users && count_ok roles) × (length_ok (length ws) ≡ false) × (p ≡ 0)
    to (one k e a b) = (a, b, e)
    to (two k e a b c) = absurd (omega arith)
    to (three k e i d) = absurd (omega arith)
    to (four k e i d f) = absurd (omega arith)

-- ── 2 ──
pub two-is-first : TwoIsFirst
two-is-first users roles ws p = (λ q. to (fault users roles ws q), back)
  where
    to : Faulty users roles ws WORD p → FirstBad users roles ws p
    to (one k e a b) = absurd (omega arith)
    to (two k e a b c) =
        let h : p < length ws = omega (arith, one_fails (word_ok users roles) ws c) in
        let s = (first-is-first ℕ (word_ok users roles) 0 ws p h).0 (sym e) in
        record { counts = a; long = b; inside = h; before = s.0; here = s.1 }
    to (three k e i d) = absurd (omega arith)
    to (four k e i d f) = absurd (omega arith)

    back : FirstBad users roles ws p → read_policy users roles ws ≡ Refused (Fault WORD p)
    back h =
        let e = first_fails (word_ok users roles) 0 ws p h.inside h.before h.here in
        is-bad users roles ws h.counts h.long (fails_inside (word_ok users roles) ws p h.inside e) ∙ ap (λ n. Refused (Fault WORD n)) e

-- ── 3 ──
-- words that are a term's and more begin with that term
begun : (ws : List ℕ) (φ : Term) (rest : List ℕ) → ws ≡ encode φ ++ rest → So (fits φ) → Begins ws φ rest
begun ws φ rest e f = rw e (begins_encode φ rest f)

begun_first : {ws rest : List ℕ} {φ : Term} → Begins ws φ rest → first ws ≡ some φ
begun_first b = rw (row_begins b)

pub three_is-behind : ThreeIsBehind
three_is-behind users roles ws p = (λ q. to (fault users roles ws q), λ h. back h.0 h.1)
  where
    behind : (φ : Term) (rest : List ℕ) → InLayout users roles ws → decode ws ≡ none → Begins ws φ rest → TermEnds ws (size φ)
    behind φ [] i d b = no (sym d ∙ decode_whole b)
    behind φ (w ∷ rest) i d b = more φ w rest (spelt users roles b i.layout).words (fits_begins b)

    ends : (x : Option Term) → first ws ≡ x → InLayout users roles ws → decode ws ≡ none → TermEnds ws (left_over x (length ws))
    ends none e i d = runs_out (λ φ rest s f. no (sym e ∙ begun_first (begun ws φ rest s f)))
    ends (some φ) e i d = behind φ (drop (size φ) ws) i d (begins ws φ e)

    to : Faulty users roles ws TERM p → InLayout users roles ws × TermEnds ws p
    to (one k e a b) = absurd (omega arith)
    to (two k e a b c) = absurd (omega arith)
    to (three k e i d) = (i, rw e (ends (first ws) refl i d))
    to (four k e i d f) = absurd (omega arith)

    missing : InLayout users roles ws → ((φ : Term) (rest : List ℕ) → ws ≡ encode φ ++ rest → So (fits φ) → ⊥) → (x : Option Term) → first ws ≡ x → first ws ≡ none
    missing i n none e = e
    missing i n (some φ) e =
        let b = begins ws φ e in
        absurd (n φ (drop (size φ) ws) (spelt users roles b i.layout).words (fits_begins b))

    back : {q : ℕ} → InLayout users roles ws → TermEnds ws q → read_policy users roles ws ≡ Refused (Fault TERM q)
    back i (more φ w rest e f) =
        let b = begun ws φ (w ∷ rest) e f in
        is_none users roles ws i (decode-more b) ∙ ap (λ (x : Option Term). Refused (Fault TERM (left_over x (length ws)))) (begun_first b)
    back i (runs_out n) =
        let m = missing i n (first ws) refl in
        is_none users roles ws i (decode_missing ws m) ∙ ap (λ (x : Option Term). Refused (Fault TERM (left_over x (length ws)))) m

-- where the words run out: with enough everyones behind them, every term of the row is whole
abbrev EVERYONE_WORD : ℕ
EVERYONE_WORD = word 1 0

record Filled (n : ℕ) (ts : List (Option Term)) : Type 0 where
  whole : So (all is_term ts)
  many : n ≤ length ts

everyones : (n : ℕ) → Filled n (row (replicate n EVERYONE_WORD))
everyones zero = record { whole = refl; many = omega arith }
everyones (suc n) = let f = everyones n in record { whole = f.whole; many = omega (arith, f.many) }

-- a word takes two terms at most, and gives one
pushed : {k m : ℕ} (n x : ℕ) → Row k m → (ts : List (Option Term)) → 1 ≤ n → Filled (suc n) ts → Filled n (push (kind_of k) x ts)
pushed n x r [] l f = absurd (omega (arith, f.many))
pushed n x r (t ∷ []) l f = absurd (omega (arith, f.many))
pushed n x r (none ∷ u ∷ ts) l f = never f.whole
pushed n x r (some a ∷ none ∷ ts) l f = never f.whole
pushed n x row1 (some a ∷ some b ∷ ts) l f = record { whole = f.whole; many = omega (arith, f.many) }
pushed n x row2 (some a ∷ some b ∷ ts) l f = record { whole = f.whole; many = omega (arith, f.many) }
pushed n x row3 (some a ∷ some b ∷ ts) l f = record { whole = f.whole; many = omega (arith, f.many) }
pushed n x row4 (some a ∷ some b ∷ ts) l f = record { whole = f.whole; many = omega (arith, f.many) }
pushed n x row5 (some a ∷ some b ∷ ts) l f = record { whole = f.whole; many = omega (arith, f.many) }
pushed n x (row_op op) (some a ∷ some b ∷ ts) l f = rw push_op (record { whole = f.whole; many = omega (arith, f.many) })

filled : (users roles : ℕ) (ws : List ℕ) (n : ℕ) → So (all (word_ok users roles) ws) → 1 ≤ n
    → Filled n (row (ws ++ replicate (n + length ws) EVERYONE_WORD))
filled users roles [] n h l = let z : n + 0 ≡ n = omega arith in rw z (everyones n)
filled users roles (w ∷ ws) n h l = elim (row_of (kind w)) [
  | inl r ↦ pushed n (operand w) r (row (ws ++ replicate (n + suc (length ws)) EVERYONE_WORD)) l (rw z at (filled users roles ws (suc n) s.1 (omega arith)))
  | inr r ↦ absurd (true≢false (sym s.0 ∙ no_kind users roles w r.0))
]
  where
    s : So (word_ok users roles w) × So (all (word_ok users roles) ws)
    s = and_split (word_ok users roles w) (all (word_ok users roles) ws) h

    z : suc n + length ws ≡ n + suc (length ws)
    z = omega arith

-- so they begin with a term, whose words begin with these
unfinished : (users roles : ℕ) (ws : List ℕ) → So (all (word_ok users roles) ws) → first ws ≡ none
    → (φ : Term) × (vs : List ℕ) × WordsOf φ (ws ++ vs)
unfinished users roles ws h e = go (row more-words) refl (filled users roles ws 1 h (omega arith))
  where
    more-words : List ℕ
    more-words = ws ++ replicate (1 + length ws) EVERYONE_WORD

    ok_words : So (all (word_ok users roles) more-words)
    ok_words = all_append (word_ok users roles) ws (replicate (1 + length ws) EVERYONE_WORD)
        ∙ and-join (all (word_ok users roles) ws) (all (word_ok users roles) (replicate (1 + length ws) EVERYONE_WORD)) h
        (all_replicate (word_ok users roles) (1 + length ws) EVERYONE_WORD refl)

    -- a term no longer than the words would begin them
    longer : (φ : Term) (rest : List ℕ) → more-words ≡ encode φ ++ rest → So (fits φ) → length ws ≤ length (encode φ)
    longer φ rest s f = by (lt_or_le (length (encode φ)) (length ws))
      where
        by : (length (encode φ) < length ws) ⊎ (length ws ≤ length (encode φ)) → length ws ≤ length (encode φ)
        by (inr l) = l
        by (inl l) =
            let n = length (encode φ) in
            let t : take n ws ≡ encode φ = sym (take-append-le n ws (replicate (1 + length ws) EVERYONE_WORD) (omega arith)) ∙ ap (take n) s ∙ take-append_seam (encode φ) rest in
            let q : ws ≡ encode φ ++ drop n ws = sym (take-append-drop n ws) ∙ ap (λ (p : List ℕ). p ++ drop n ws) t in
            no (sym e ∙ begun_first (begun ws φ (drop n ws) q f))

    go : (ts : List (Option Term)) → row more-words ≡ ts → Filled 1 ts → (φ : Term) × (vs : List ℕ) × WordsOf φ (ws ++ vs)
    go [] r f = absurd (omega (arith, f.many))
    go (none ∷ ts) r f = never f.whole
    go (some φ ∷ ts) r f =
        let n = length ws in
        let b = begins more-words φ (ap head r) in
        let s = (spelt users roles b ok_words).words in
        let l = longer φ (drop (size φ) more-words) s (fits_begins b) in
        let t : ws ≡ take n (encode φ) = sym (take-append_seam ws (replicate (1 + n) EVERYONE_WORD)) ∙ ap (take n) s ∙ take-append-le n (encode φ) (drop (size φ) more-words) l in (
          φ,
          drop n (encode φ),
          record {
            written = ap (λ (p : List ℕ). p ++ drop n (encode φ)) t ∙ take-append-drop n (encode φ);
            fit = fits_begins b;
          },
        )

pub run_out_is-unfinished : RunOutIsUnfinished
run_out_is-unfinished users roles ws q = go (fault users roles ws q)
  where
    by : (x : Option Term) → first ws ≡ x → length ws ≡ left_over x (length ws) → InLayout users roles ws → decode ws ≡ none
        → (φ : Term) × (vs : List ℕ) × WordsOf φ (ws ++ vs)
    by none e p i d = unfinished users roles ws i.layout e
    by (some φ) e p i d = no {φ = φ} (sym d ∙ decode-first ws φ e ∙ rw (eq-eqb (size φ) (length ws) (sym p)))

    go : Faulty users roles ws TERM (length ws) → (φ : Term) × (vs : List ℕ) × WordsOf φ (ws ++ vs)
    go (one k e a b) = absurd (omega arith)
    go (two k e a b c) = absurd (omega arith)
    go (three k e i d) = by (first ws) refl e i d
    go (four k e i d f) = absurd (omega arith)

-- ── 4 ──
pub formed-is-over : FormedIsOver
formed-is-over everyone = refl
formed-is-over (role r) = refl
formed-is-over (set m) = refl
formed-is-over (¬ᵗ φ) = ap (λ (b : Bool). unit φ && b) (formed-is-over φ)
formed-is-over (φ ⁺) = ap (λ (b : Bool). unit φ && b) (formed-is-over φ)
formed-is-over (bin op φ ψ) = rw (formed-is-over φ, formed-is-over ψ) (sym (all_append over_unit (subterms φ) (subterms ψ)))

pub four_is-first : FourIsFirst
four_is-first users roles ws p = (λ q. to (fault users roles ws q), back)
  where
    to : Faulty users roles ws UNIT p → (φ : Term) × InLayout users roles ws × WordsOf φ ws × FirstNotOver φ p
    to (one k e a b) = absurd (omega arith)
    to (two k e a b c) = absurd (omega arith)
    to (three k e i d) = absurd (omega arith)
    to (four {φ} k e i d f) =
        let h : p < length (subterms φ) = omega (arith, one_fails over_unit (subterms φ) (sym (formed-is-over φ) ∙ f)) in
        let s = (first-is-first Term over_unit everyone (subterms φ) p h).0 (sym e) in
        (φ, i, (decode-is-encode users roles ws φ i.layout).0 d, record { inside = omega (arith, subterms-length φ); before = s.0; here = s.1 })

    back : ((φ : Term) × InLayout users roles ws × WordsOf φ ws × FirstNotOver φ p) → read_policy users roles ws ≡ Refused (Fault UNIT p)
    back h =
        let φ = h.0 in
        let n = h.3 in
        let i : p < length (subterms φ) = omega (arith, n.inside, subterms-length φ) in
        let e = first_fails over_unit everyone (subterms φ) p i n.before n.here in
        is_ill users roles ws h.1 φ (decodes ws φ h.2) (formed-is-over φ ∙ fails_inside over_unit (subterms φ) p i e)
        ∙ ap (λ n. Refused (Fault UNIT n)) e

-- ── the place ──
pub place_in_range : PlaceInRange
place_in_range users roles ws k p q = go (fault users roles ws q)
  where
    few : So (length_ok (length ws)) → length ws ≤ 31
    few l = (length-range (length ws) l).1

    go : Faulty users roles ws k p → (p < 32) × (p ≤ length ws)
    go (one k e a b) = (omega arith, omega arith)
    go (two k e a b c) = let m = failing_most (word_ok users roles) ws in (omega (arith, few b), omega arith)
    go (three k e i d) = let m = left-over_most ws in (omega (arith, few i.long), omega arith)
    go (four {φ} k e i d f) =
        let m : p ≤ length ws = omega (arith, failing_most over_unit (subterms φ), subterms-length φ, length_decoded ws φ d) in
        (omega (arith, few i.long), m)

pub two_stays : TwoStays
two_stays users roles us w vs others q h = go (fault users roles (us ++ (w ∷ vs)) q)
  where
    go : Faulty users roles (us ++ (w ∷ vs)) WORD (length us) → read_policy users roles (us ++ (w ∷ others)) ≡ Refused (Fault WORD (length us))
    go (one k e a b) = absurd (omega arith)
    go (two k e a b c) =
        let n = length-append us (w ∷ others) in
        let s = failing_stays (word_ok users roles) us w vs others (sym e) in
        let m = length (us ++ (w ∷ others)) in
        let l = and-join (leb 1 m) (leb m 31) (le-leb 1 m (omega arith)) (le-leb m 31 (omega arith)) in
        is-bad users roles (us ++ (w ∷ others)) a l (fails_inside (word_ok users roles) (us ++ (w ∷ others)) (length us) (omega arith) s)
        ∙ ap (λ n. Refused (Fault WORD n)) s
    go (three k e i d) = absurd (omega arith)
    go (four k e i d f) = absurd (omega arith)

-- ── who has a place ──
pub accepted-is_faultless : AcceptedIsFaultless
accepted-is_faultless users roles ws counts = (
  λ h k p q. let z : Accepted h.0 h.1 ≡ Refused (Fault k p) = sym h.2 ∙ q in let y : ◌≡◌ {A = ℕ} 0 1 = cc in omega arith,
  λ h. go (reads users roles ws) refl h,
)
  where
    go : {r : PolicyRead} → Read users roles ws r → read_policy users roles ws ≡ r
        → ((k p : ℕ) → read_policy users roles ws ≡ Refused (Fault k p) → ⊥) → (n : ℕ) × (m : ℕ) × (read_policy users roles ws ≡ Accepted n m)
    go (miscounted a) e h = absurd (true≢false (sym counts ∙ a))
    go (too_long a b) e h = absurd (h _ _ e)
    go (bad-word a b c) e h = absurd (h _ _ e)
    go (no_term_lem i d) e h = absurd (h _ _ e)
    go (not-formed i d f) e h = absurd (h _ _ e)
    go (formed i d f) e h = (_, _, e)

pub counts_have_none : CountsHaveNone
counts_have_none users roles ws a = is_miscounted users roles ws a

pub code_has_number : CodeHasNumber
unfolding code_at
code_has_number users roles ws k = by_test (is_fault k) (λ e. rw e) λ e. rw e

pub faults_have_one : FaultsHaveOne
unfolding code_at
faults_have_one users roles ws k l h = rw (le-leb WORD_COUNT k l, le-leb k UNIT h)

pub others_have_none : OthersHaveNone
unfolding code_at
others_have_none users roles ws k (inl h) = rw (lt-leb WORD_COUNT k h)
others_have_none users roles ws k (inr h) = rw (lt-leb k UNIT h, and-false (leb WORD_COUNT k))

pub code_of_read : CodeOfRead
unfolding read_policy code_at
code_of_read users roles ws =
    let k = code (refusals users roles ws) in
    by_test (eqb k 0) (λ e. rw (eqb-true k 0 e)) λ e. rw e
