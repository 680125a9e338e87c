-- A text that is one term from its beginning to its end: how many words it has at most, and what is read of it.
use mathlib.Core.Path.{◌≡◌, refl, sym, ap, ◌∙◌}
use mathlib.Core.Bool.{not}
use mathlib.Core.List.{List, [], ◌∷◌, ◌++◌, append-nil}
use mathlib.Core.Option.{some, none, none-ne-some}
use Rattle.std.specs.Prelude.{Some, None}
use Prim.Native.Nat.{ℕ, ◌+◌, ◌*◌, ◌^◌, ◌≤◌, ◌<◌}
use native.Mathlib.Omega.{arith}
use borrow.Author.Tests.{ltb-true, eqb-false, not-true}
use lib.Dec.{ltb, eqb}
use lib.ListN.{length, take, drop, length-append}
use lib.Seq.{drop-length, drop-cons, take_at}
use Rattle.soda.specs.Terms.{Op, either, both, together, apart, Term, everyone, role, set, ¬ᵗ◌, ◌⁺, bin, size}
use Rattle.soda.specs.Words.{encode, declared}
use Rattle.soda.proofs.Bools.{by_test, and_split}
use Rattle.soda.proofs.Words.{encode-length}
use Rattle.text.specs.Texts.{ascii, numeral, set_text, op_text, text}
use Rattle.text.specs.Grammar.{Read, upon, members_in, term_in, at_end, parse}
use Rattle.text.specs.Laws.{Named}
use Rattle.parser.specs.Private.{fitting, Worded, Parsed, WordsRead}
use Rattle.text.specs.declared.Span.{Span}
use Rattle.text.proofs.Members.{set_read}
use Rattle.text.proofs.Parsing.{term_stands}
use Rattle.parser.proofs.Readers.{missing, there}
use Rattle.text.proofs.Putting.{put-length}
use Rattle.parser.proofs.Sides.{fits, fitting-some}

-- ── a word has four bytes, but for two of all ──
numeral-long : (n : ℕ) → 1 ≤ length (numeral n)
numeral-long n = by_test (ltb n 10) (λ e. rw e (omega arith)) (λ e. rw e (omega arith))

set_long : (m : ℕ) → 1 ≤ m → m < 2 ^ 16 → 2 ≤ length (set_text m)
set_long m h k =
    let (t, p, q) = set_read m [] h k in
    go t q (sym (ap length (append-nil (set_text m))) ∙ ap length p)
  where
    go : (t : List ℕ) → members_in 16 0 0 t ≡ some (m, []) → length (set_text m) ≡ length (123 ∷ t) → 2 ≤ length (set_text m)
    go [] q e = absurd (none-ne-some (m, []) q)
    go (b ∷ t) q e = omega arith

op_long : (op : Op) → 4 ≤ length (op_text op)
op_long either = omega arith
op_long both = omega arith
op_long together = omega arith
op_long apart = omega arith

few_words : (φ : Term) → Named φ → 4 * size φ ≤ length (text φ) + 2
few_words everyone d = omega arith
few_words (role r) d = let h = numeral-long r in omega arith
few_words (set m) d =
    let (x, y) = and_split (not (eqb m 0)) (ltb m (2 ^ 16)) d in
    let ne = eqb-false m 0 (not-true (eqb m 0) x) in
    by_two (set_text m) (set_long m (let z : 1 ≤ m = omega arith in z) (ltb-true m (2 ^ 16) y))
  where
    by_two : (l : List ℕ) → 2 ≤ length l → 4 ≤ length l + 2
    by_two l h = omega arith
few_words (¬ᵗ φ) d = let h = few_words φ d in omega arith
few_words (φ ⁺) d = let h = few_words φ d in omega arith
few_words (bin op φ ψ) d =
    let (x, y) = and_split (declared 16 16 φ) (declared 16 16 ψ) d in
    pair-few (text φ) (op_text op) (text ψ) (size φ) (size ψ) (few_words φ x) (op_long op) (few_words ψ y)
  where
    pair-few : (a o b : List ℕ) (x y : ℕ) → 4 * x ≤ length a + 2 → 4 ≤ length o → 4 * y ≤ length b + 2
        → 4 * (1 + (x + y)) ≤ length (ascii "(" ++ (a ++ (o ++ (b ++ ascii ")")))) + 2
    pair-few a o b x y h i j = omega (arith, length-append a (o ++ (b ++ ascii ")")), length-append o (b ++ ascii ")"), length-append b (ascii ")"))

-- ── what is read ──
module _ (t words new : List ℕ) (room : length t + 2 ≤ 4 * length words) where
  abbrev o : Read Term
  o = term_in (length t) t

  -- a whole text's words have room
  whole_fits : (φ : Term) → o ≡ some (φ, []) → size φ ≤ length words
  whole_fits φ e =
      let (s, d) = (term_stands (length t) t).has (φ, []) e in
      let n = few_words φ d in
      omega (arith, ap length (s ∙ append-nil (text φ)))

  no_words : parse t ≡ none → WordsRead (parse t) None new
  no_words e = rw e tt

  pub whole_none : Parsed t words None new → WordsRead (parse t) None new
  unfolding parse
  whole_none read = no_words (go o refl (missing (λ s. s.bytes) (λ s. Worded words s new) (fitting (length words) o) t (read (length t) (omega arith))))
    where
      go : (p : Read Term) → o ≡ p → fitting (length words) p ≡ none → upon p (λ φ. at_end φ.0 φ.1) ≡ none
      go none q f = refl
      go (some (φ, [])) q f = absurd (none-ne-some (φ, []) (sym f ∙ fits (length words) (φ, []) (whole_fits φ q)))
      go (some (φ, b ∷ rest)) q f = refl

  module _ (r : Span) (read : Parsed t words (Some r) new) where
    found : (φ : Term) × (o ≡ some (φ, drop r.bytes t)) × Worded words r new φ × (r.bytes ≤ length t)
    found =
        let g = there (λ s. s.bytes) (λ s. Worded words s new) (fitting (length words) o) t r (read (length t) (omega arith)) in
        (g.thing, (fitting-some (length words) o (g.thing, drop r.bytes t) g.same).0, g.holds, g.within)

    pub whole_other : (r.bytes ≡ length t → ⊥) → WordsRead (parse t) None new
    unfolding parse
    whole_other n =
        let (φ, e, p, w) = found in
        no_words (rw (e, drop-cons t r.bytes 0 (let z : r.bytes < length t = omega arith in z)))

    pub whole_term : r.bytes ≡ length t → WordsRead (parse t) (Some r.words) new
    unfolding parse
    whole_term e =
        let (φ, q, p, w) = found in
        let l = put-length p.put (omega (arith, encode-length φ, p.room)) in
        let n : drop r.bytes t ≡ [] = ap (λ (k : ℕ). drop k t) e ∙ drop-length t in
        rw (q, n) (
          omega (arith, p.put.count, encode-length φ, p.room),
          ap (take r.words) p.put.holds ∙ take_at (encode φ) (drop (length (encode φ)) words) r.words (sym p.put.count),
        )
