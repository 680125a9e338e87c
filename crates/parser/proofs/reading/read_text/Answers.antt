-- 20, then 21, then what the words of the term are answered.
use Rattle.std.proofs.Common.{◌≡◌, ℕ, ◌≤◌, ◌<◌, Bool, true, false, ◌||◌, not, ltb, eqb, List, length, take, refl, ap, ◌∙◌, lt-ltb, le-ltb}
use mathlib.Core.Option.{Option, some, none}
use Rattle.std.specs.Prelude.{Some, None}
use Rattle.std.proofs.lemmas.Slice.Eq.{strip_prefix_is}
use Rattle.std.proofs.lemmas.Bool.Decides.{Decides-eqb}
use Rattle.soda.specs.Terms.{Term}
use Rattle.soda.specs.Words.{encode}
use Rattle.policy.specs.Codes.{OPENING, TEXT, Plain}
use Rattle.policy.specs.Refusals.{code}
use Rattle.policy.specs.Faults.{code_at}
use Rattle.text.specs.Texts.{opening}
use Rattle.text.specs.Grammar.{is_found, behind, parse}
use Rattle.text.specs.Reading.{Converted, Refused, limit, term_of, words_of, word_refusals, read_refusals, read_code, converted, read_answer, laid, read_out}
use Rattle.parser.specs.Private.{WordsRead}
use Rattle.parser.proofs.Readers.{found-behind, none-behind}
use Rattle.parser.proofs.reading.read_text.Goals as goal

module _ (users roles : ℕ) (t out : List ℕ) where
  abbrev n : ℕ
  n = length out

  abbrev k : ℕ
  k = read_code users roles t n

  -- the answer and the output
  abbrev Answered : Converted → List ℕ → Type 0
  Answered r end = (r ≡ read_answer users roles t n) × (end ≡ read_out users roles t out)

  refuses : (number : ℕ) → k ≡ number → eqb number 0 ≡ false → Answered (Refused (code_at users roles (words_of (term_of t)) number)) out
  unfolding read_out
  refuses number e d = (rw (e, d) refl, rw (e, d) refl)

  unopened : behind opening t ≡ none → Answered (Refused (Plain OPENING)) out
  unfolding read_refusals code_at
  unopened e = refuses OPENING (rw e refl) refl

  module _ (rest : List ℕ) (opened : behind opening t ≡ some rest) where
    term_is : term_of t ≡ parse rest
    unfolding term_of
    term_is = rw opened refl

    no_text : (ltb limit (length t) || not (is_found (term_of t))) ≡ true → Answered (Refused (Plain TEXT)) out
    unfolding read_refusals code_at
    no_text e = refuses TEXT (rw (opened, e) refl) refl

    too_long : limit < length t → Answered (Refused (Plain TEXT)) out
    too_long h = no_text (ap (λ (b : Bool). b || not (is_found (term_of t))) (lt-ltb limit (length t) h))

    module _ (short : length t ≤ limit) where
      no_term : (new : List ℕ) → WordsRead (parse rest) None new → Answered (Refused (Plain TEXT)) out
      no_term new w = no_text (rw (le-ltb limit (length t) short, term_is, go (parse rest) w) refl)
        where
          go : (o : Option Term) → WordsRead o None new → o ≡ none
          go none w = refl
          go (some φ) w = absurd w

      -- the words decide
      accepted : (words : List ℕ) (m : ℕ) → WordsRead (parse rest) (Some m) words → {r : Converted} {end : List ℕ}
          → let ws = take m words in let j = code (word_refusals users roles ws n) in
          r ≡ converted users roles ws (length ws) j → end ≡ laid j ws out → Answered r end
      unfolding read_out read_refusals
      accepted words m w p q =
          let (φ, e, s) = go (parse rest) w in
          let by_words : k ≡ code (word_refusals users roles (encode φ) n) = rw (opened, le-ltb limit (length t) short, term_is ∙ e) refl in
          (p ∙ rw (by_words, term_is ∙ e, s) refl, q ∙ rw (by_words, term_is ∙ e, s) refl)
        where
          go : (o : Option Term) → WordsRead o (Some m) words → (φ : Term) × (o ≡ some φ) × (take m words ≡ encode φ)
          go none w = absurd w
          go (some φ) w = (φ, refl, w.1)

pub returns-in_default : goal.returns-in_default
returns-in_default c =
    let a = c.args in
    let q = unopened a.users a.roles a.text.now a.out.now (none-behind opening a.text.now (strip_prefix_is Decides-eqb a.text.now opening None c.in_default.ensures.cases)) in
    record { value = q.0; out_after = q.1 }

pub returns-then-text-gt-LIMIT : goal.returns-then-text-gt-LIMIT
returns-then-text-gt-LIMIT c =
    let a = c.args in
    let s = strip_prefix_is Decides-eqb a.text.now opening (Some c.in-Some.term) c.in-Some.ensures.cases in
    let q = too_long a.users a.roles a.text.now a.out.now c.in-Some.term.now (found-behind opening a.text.now c.in-Some.term.now s) c.if-text-gt-LIMIT.true in
    record { value = q.0; out_after = q.1 }

pub returns-in_default-words_in : goal.returns-in_default-words_in
returns-in_default-words_in c =
    let a = c.args in
    let s = strip_prefix_is Decides-eqb a.text.now opening (Some c.in-Some.term) c.in-Some.ensures.cases in
    let q = no_term a.users a.roles a.text.now a.out.now c.in-Some.term.now (found-behind opening a.text.now c.in-Some.term.now s) c.if-text-gt-LIMIT.false
    c.words_in.new.words c.in_default-words_in.ensures in
    record { value = q.0; out_after = q.1 }

pub returns : goal.returns
returns c =
    let a = c.args in
    let s = strip_prefix_is Decides-eqb a.text.now opening (Some c.in-Some.term) c.in-Some.ensures.cases in
    let q = accepted a.users a.roles a.text.now a.out.now c.in-Some.term.now (found-behind opening a.text.now c.in-Some.term.now s) c.if-text-gt-LIMIT.false
    c.words_in.new.words c.in-Some-words_in.n c.in-Some-words_in.ensures c.accept.ensures.value c.accept.ensures.out_after in
    record { value = q.0; out_after = q.1 }
