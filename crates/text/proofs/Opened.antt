-- The numbers of a reading: 20 and 21 by the text, every other by the words.
use mathlib.Core.Path.{◌≡◌, refl, sym, ap, ◌∙◌}
use mathlib.Core.Logic.{◌⊎◌, inl, inr, ◌↔◌}
use mathlib.Core.Bool.{Bool, true, false, So, not, ◌||◌, cond, false≢true, true≢false}
use mathlib.Core.List.{List, ◌++◌}
use mathlib.Core.Option.{Option, some, none}
use Prim.Native.Nat.{ℕ, ◌≤◌, ◌<◌}
use native.Mathlib.Omega.{arith}
use borrow.Author.Tests.{lt-ltb, le-ltb, ltb-true}
use lib.Dec.{ltb, eqb}
use lib.ListN.{length}
use Rattle.soda.specs.Terms.{Term}
use Rattle.soda.specs.Words.{encode}
use Rattle.soda.proofs.Bools.{by_test, not_so, or_split, or_left, or_right}
use Rattle.policy.specs.Codes.{TERM, OPENING, TEXT}
use Rattle.policy.specs.Refusals.{code}
use Rattle.text.specs.Texts.{opening, text, policy_text}
use Rattle.text.specs.Grammar.{is_found, behind, parse}
use Rattle.text.specs.Reading.{limit, term_of, words_of, word_refusals, read_refusals, read_code}
use Rattle.text.specs.Laws.{Named, TwentyIsNoOpening, TwentyOneIsNoTerm, ReadIsWords, NeverThree, WordsHaveNeither}
use Rattle.text.proofs.Beginnings.{behind-some}
use Rattle.text.proofs.Parsing.{parse-is-text}
use Rattle.text.proofs.Policies.{code_keeps, named_decodes}

-- ── the words ──
pub words_have_neither : WordsHaveNeither
unfolding word_refusals
words_have_neither users roles ws n =
    ltb-true (code (word_refusals users roles ws n)) OPENING (code_keeps (λ k. ltb k OPENING) (word_refusals users roles ws n) refl refl)

-- ── the text ──
pub term_of_text : (φ : Term) → Named φ → term_of (policy_text φ) ≡ some φ
unfolding term_of
term_of_text φ d = (parse-is-text (text φ) φ).1 (refl, d)

by_opening : (t : List ℕ) → (behind opening t ≡ none) ⊎ ((rest : List ℕ) × (t ≡ opening ++ rest))
by_opening t = go (behind opening t) refl
  where
    go : (o : Option (List ℕ)) → behind opening t ≡ o → (behind opening t ≡ none) ⊎ ((rest : List ℕ) × (t ≡ opening ++ rest))
    go none e = inl e
    go (some rest) e = inr (rest, behind-some opening t rest e)

-- behind the opening bytes, the two tests of 21
abbrev too_long : List ℕ → Bool
too_long rest = ltb limit (length (opening ++ rest))

abbrev no_term : List ℕ → Bool
no_term rest = not (is_found (parse rest))

-- the rest is the text of a term or of none
is-term : (rest : List ℕ) → no_term rest ≡ false → (φ : Term) × (parse rest ≡ some φ)
is-term rest = go (parse rest)
  where
    go : (o : Option Term) → not (is_found o) ≡ false → (φ : Term) × (o ≡ some φ)
    go none e = absurd (true≢false e)
    go (some φ) e = (φ, refl)

abbrev HasNone : List ℕ → Type 0
HasNone rest = (φ : Term) → rest ≡ text φ → Named φ → ⊥

no_term_lem : (rest : List ℕ) → So (no_term rest) ↔ HasNone rest
no_term_lem rest = (
  λ e φ q d. false≢true (rw ((parse-is-text rest φ).1 (q, d)) at e),
  λ f. by_test (no_term rest) (λ e. e) λ e. let (φ, p) = is-term rest e in let (q, d) = (parse-is-text rest φ).0 p in absurd (f φ q d),
)

module _ (users roles n : ℕ) where
  unopened : (t : List ℕ) → behind opening t ≡ none → read_code users roles t n ≡ OPENING
  unfolding read_refusals
  unopened t e = rw e

  -- the number of the words
  abbrev words_code : Option Term → ℕ
  words_code o = code (word_refusals users roles (words_of o) n)

  opened : (t rest : List ℕ) → t ≡ opening ++ rest → read_code users roles t n ≡ cond (too_long rest || no_term rest) TEXT (words_code (parse rest))
  unfolding read_refusals term_of
  opened t rest e = rw e

  -- from 20 on it is not theirs
  above_words : (b : Bool) (o : Option Term) → OPENING ≤ cond b TEXT (words_code o) → So b
  above_words true o h = refl
  above_words false o h = absurd (omega (arith, words_have_neither users roles (words_of o) n))

pub twenty_is_no_opening : TwentyIsNoOpening
twenty_is_no_opening users roles t n = (to, λ f. elim (by_opening t) [ inl e ↦ unopened users roles n t e | inr r ↦ absurd (f r.0 r.1) ])
  where
    to : read_code users roles t n ≡ OPENING → (rest : List ℕ) → t ≡ opening ++ rest → ⊥
    to e rest q =
        let z = sym (opened users roles n t rest q) ∙ e in
        let b = above_words users roles n (too_long rest || no_term rest) (parse rest) (omega arith) in
        let y : TEXT ≡ OPENING = rw b at z in
        omega arith

pub twenty_one-is_no_term : TwentyOneIsNoTerm
twenty_one-is_no_term users roles t n = (to, back)
  where
    to : read_code users roles t n ≡ TEXT → (rest : List ℕ) × (t ≡ opening ++ rest) × ((limit < length t) ⊎ HasNone rest)
    to e = elim (by_opening t) [
      | inl p ↦ absurd (omega (arith, unopened users roles n t p))
      | inr r ↦
          let rest = r.0 in
          let z = sym (opened users roles n t rest r.1) ∙ e in
          let b = above_words users roles n (too_long rest || no_term rest) (parse rest) (omega arith) in (
            rest,
            r.1,
            elim (or_split (too_long rest) (no_term rest) b) [
              | inl x ↦ inl (rw r.1 (ltb-true limit (length (opening ++ rest)) x))
              | inr y ↦ inr ((no_term_lem rest).0 y)
            ],
          )
    ]

    back : (rest : List ℕ) × (t ≡ opening ++ rest) × ((limit < length t) ⊎ HasNone rest) → read_code users roles t n ≡ TEXT
    back (rest, q, c) =
        let b : So (too_long rest || no_term rest) = elim c [
          | inl h ↦ or_left (too_long rest) (no_term rest) (lt-ltb limit (length (opening ++ rest)) (rw q at h))
          | inr f ↦ or_right (too_long rest) (no_term rest) ((no_term_lem rest).1 f)
        ] in
        opened users roles n t rest q ∙ rw b

-- ── every other text ──
pub read_is-words : ReadIsWords
read_is-words users roles φ n d h =
    let e : parse (text φ) ≡ some φ = (parse-is-text (text φ) φ).1 (refl, d) in
    opened users roles n (policy_text φ) (text φ) refl ∙ rw (le-ltb limit (length (policy_text φ)) h, e)

-- a number below 20 is that of a term's words
pub by_words : (users roles : ℕ) (t : List ℕ) (n : ℕ) → read_code users roles t n < OPENING
    → (φ : Term) × Named φ × (t ≡ policy_text φ) × (read_code users roles t n ≡ code (word_refusals users roles (encode φ) n))
by_words users roles t n h = elim (by_opening t) [
  | inl p ↦ absurd (omega (arith, unopened users roles n t p))
  | inr r ↦
      let rest = r.0 in
      let q = opened users roles n t rest r.1 in
      by_test (too_long rest || no_term rest)
      (λ b. absurd (let z : read_code users roles t n ≡ TEXT = q ∙ rw b in omega arith))
      λ b. let (φ, p) = is-term rest (not_so (no_term rest) (λ x. true≢false (sym (or_right (too_long rest) (no_term rest) x) ∙ b))) in
      let (x, d) = (parse-is-text rest φ).0 p in (
        φ,
        d,
        r.1 ∙ ap (λ (s : List ℕ). opening ++ s) x,
        q ∙ ap (λ (c : Bool). cond c TEXT (words_code users roles n (parse rest))) b ∙ ap (words_code users roles n) p,
      )
]

-- the words of a term are one term
pub never_three : NeverThree
unfolding word_refusals
never_three users roles t n e =
    let (φ, d, q, w) = by_words users roles t n (omega arith) in
    let l = word_refusals users roles (encode φ) n in
    let a : So (not (eqb (code l) TERM)) = code_keeps (λ k. not (eqb k TERM)) l refl (rw (named_decodes φ d)) in
    let z : code l ≡ TERM = sym w ∙ e in
    false≢true (rw z at a)
