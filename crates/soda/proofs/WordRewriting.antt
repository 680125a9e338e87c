-- Steps by a rule on words are steps by it on terms.
use mathlib.Core.Path.{◌≡◌, refl, sym, ◌∙◌, ap, subst}
use mathlib.Core.Logic.{◌⊎◌, inl, inr}
use mathlib.Core.Bool.{So}
use mathlib.Core.List.{List, [], ◌∷◌, ◌++◌, tail, append_assoc, append-nil}
use Prim.Native.Nat.{ℕ, ◌<◌}
use native.Mathlib.Omega.{arith}
use lib.ListN.{length, get_or, length-append}
use Rattle.soda.specs.Terms.{Term, everyone, role, set, ¬ᵗ◌, ◌⁺, bin, size}
use Rattle.soda.specs.Words.{word, op_word, encode, fits}
use Rattle.soda.specs.Steps.{Turn, WordSteps}
use Rattle.soda.specs.Rewriting.{Rule, Rewrite, RuleStep, here, in_not, in_plus, in_left, in_right, RuleSteps, WordRuleStep, WordRuleSteps}
use Rattle.soda.specs.Spreading.{WordStepsByTurn, LeadsToWords, WordsRelatedBy, WiderRule}
use Rattle.soda.proofs.Bools.{and_split}
use Rattle.soda.proofs.Terms.{size_pos}
use Rattle.soda.proofs.Words.{encode-length, words-are-one-term, encode_inj}
use Rattle.soda.proofs.Rewriting.{turns_are-rewrites, rewrites_keep_form}

-- ── a step on the words of a term is a step on the term ──
-- A list cut in two ways: the first cut lies within x, or behind it.
cut : (p q x y : List ℕ) → p ++ q ≡ x ++ y → (length p < length x) ⊎ ((m : List ℕ) × (p ≡ x ++ m) × (m ++ q ≡ y))
cut p q [] y e = inr (p, refl, e)
cut [] q (c ∷ x) y e = inl (omega arith)
cut (d ∷ p) q (c ∷ x) y e = elim (cut p q x y (ap (λ (l : List ℕ). tail l) e)) [
  | inl h ↦ inl (omega arith)
  | inr r ↦ inr (r.0, λ i. get_or (e i) 0 0 ∷ r.1 i, r.2)
]

-- for any rule whose steps keep the layout
module _ {R : Rule} (keeps : (a b : Term) → RuleSteps R a b → fits a ≡ fits b) where
  -- Words of φ, then `rest`, are words `before`, of the term `old`, and `after`; `old` begins within φ. With `new` in place of
  -- `old` the words are those of a term that φ steps to, then `rest`.
  module _ (old new : Term) (rule : R old new) (layout : So (fits old)) (after : List ℕ) where
    abbrev Replaced : Term → List ℕ → List ℕ → Type 0
    Replaced φ rest before = (χ : Term) × RuleStep R φ χ × (before ++ (encode new ++ after) ≡ encode χ ++ rest)

    abbrev Stands : Term → List ℕ → List ℕ → Type 0
    Stands φ rest before = encode φ ++ rest ≡ before ++ (encode old ++ after)

    whole : (φ : Term) (rest : List ℕ) → So (fits φ) → Stands φ rest [] → Replaced φ rest []
    whole φ rest f e =
        let r = words-are-one-term φ old rest after f layout e in
        (new, subst (λ (χ : Term). RuleStep R χ new) (sym r.0) (here rule), ap (λ (l : List ℕ). encode new ++ l) (sym r.1))

    leaf : (φ : Term) (rest before : List ℕ) → So (fits φ) → Stands φ rest before → length before < 1 → Replaced φ rest before
    leaf φ rest [] f e h = whole φ rest f e
    leaf φ rest (w ∷ before) f e h = absurd (omega arith)

    replace : (φ : Term) (rest before : List ℕ) → So (fits φ) → Stands φ rest before → length before < size φ → Replaced φ rest before
    replace everyone rest before f e h = leaf everyone rest before f e h
    replace (role r) rest before f e h = leaf (role r) rest before f e h
    replace (set m) rest before f e h = leaf (set m) rest before f e h
    replace (¬ᵗ φ) rest [] f e h = whole (¬ᵗ φ) rest f e
    replace (¬ᵗ φ) rest (w ∷ before) f e h =
        let r = replace φ rest before f (ap (λ (l : List ℕ). tail l) e) (omega arith) in
        (¬ᵗ r.0, in_not r.1, λ i. get_or (sym e i) 0 0 ∷ r.2 i)
    replace (φ ⁺) rest [] f e h = whole (φ ⁺) rest f e
    replace (φ ⁺) rest (w ∷ before) f e h =
        let r = replace φ rest before f (ap (λ (l : List ℕ). tail l) e) (omega arith) in
        (r.0 ⁺, in_plus r.1, λ i. get_or (sym e i) 0 0 ∷ r.2 i)
    replace (bin op φ ψ) rest [] f e h = whole (bin op φ ψ) rest f e
    replace (bin op φ ψ) rest (w ∷ before) f e h =
        let fs = and_split (fits φ) (fits ψ) f in
        let d = sym (append_assoc (encode φ) (encode ψ) rest) ∙ ap (λ (l : List ℕ). tail l) e in
        elim (cut before (encode old ++ after) (encode φ) (encode ψ ++ rest) (sym d)) [
          | inl k ↦
              let r = replace φ (encode ψ ++ rest) before fs.0 d (omega (arith, encode-length φ)) in
              (bin op r.0 ψ, in_left r.1, λ i. get_or (sym e i) 0 0 ∷ (r.2 ∙ sym (append_assoc (encode r.0) (encode ψ) rest)) i)
          | inr k ↦
              let lengths = ap (λ (l : List ℕ). length l) k.1 ∙ length-append (encode φ) k.0 in
              let r = replace ψ rest k.0 fs.1 (sym k.2) (omega (arith, lengths, encode-length φ)) in
              let joined = ap (λ (l : List ℕ). l ++ (encode new ++ after)) k.1 ∙ append_assoc (encode φ) k.0 (encode new ++ after)
              ∙ ap (λ (l : List ℕ). encode φ ++ l) r.2 ∙ sym (append_assoc (encode φ) (encode r.0) rest) in
              (bin op φ r.0, in_right r.1, λ i. get_or (sym e i) 0 0 ∷ joined i)
        ]

  step_of_words : (φ : Term) (v : List ℕ) → So (fits φ) → WordRuleStep R (encode φ) v → (χ : Term) × RuleStep R φ χ × (v ≡ encode χ)
  step_of_words φ v f s =
      let all = ap (λ (l : List ℕ). length l) s.is_old ∙ length-append s.before (encode s.old ++ s.after) in
      let some = length-append (encode s.old) s.after in
      let within : length s.before < size φ = omega (arith, all, some, encode-length s.old, size_pos s.old, encode-length φ) in
      let r = replace s.old s.new s.rule s.layout s.after φ [] s.before f (append-nil (encode φ) ∙ s.is_old) within in
      (r.0, r.1, s.is_new ∙ r.2 ∙ append-nil (encode r.0))

  steps_of_words : (φ : Term) (u v : List ℕ) → So (fits φ) → u ≡ encode φ → WordRuleSteps R u v → (χ : Term) × RuleSteps R φ χ × (v ≡ encode χ)
  steps_of_words φ u v f e (WordRuleSteps.none g) = (φ, RuleSteps.none, sym g ∙ e)
  steps_of_words φ u v f e (WordRuleSteps.step {v = m} s p) =
      let r = step_of_words φ m f (subst (λ (l : List ℕ). WordRuleStep R l m) e s) in
      let q = steps_of_words r.0 m v (sym (keeps φ r.0 (RuleSteps.step r.1 RuleSteps.none)) ∙ f) r.2 p in
      (q.0, RuleSteps.step r.1 q.1, q.2)

  -- ── a step on a term is a step on its words ──
  -- p and q stand around the term
  words_around : (p q : List ℕ) {a b : Term} → So (fits a) → RuleStep R a b → WordRuleStep R (p ++ (encode a ++ q)) (p ++ (encode b ++ q))
  words_around p q {a} {b} f (here t) = record { before = p; after = q; old = a; new = b; rule = t; layout = f; is_old = refl; is_new = refl }
  words_around p q f (in_not s) = simp append_assoc at (words_around (p ++ (word 4 0 ∷ [])) q f s)
  words_around p q f (in_plus s) = simp append_assoc at (words_around (p ++ (word 5 0 ∷ [])) q f s)
  words_around p q f (in_left {op} {a} {b} {c} s) =
      simp append_assoc (simp append_assoc at (words_around (p ++ (op_word op ∷ [])) (encode c ++ q) (and_split (fits a) (fits c) f).0 s))
  words_around p q f (in_right {op} {a} {b} {c} s) =
      simp append_assoc (simp append_assoc at (words_around (p ++ (op_word op ∷ encode a)) q (and_split (fits a) (fits b) f).1 s))

  words_of_step : {a b : Term} → So (fits a) → RuleStep R a b → WordRuleStep R (encode a) (encode b)
  words_of_step f s = simp append-nil at (words_around [] [] f s)

  words_of_steps : {a b : Term} → So (fits a) → RuleSteps R a b → WordRuleSteps R (encode a) (encode b)
  words_of_steps f RuleSteps.none = WordRuleSteps.none refl
  words_of_steps f (RuleSteps.step {a} {b} s p) = WordRuleSteps.step (words_of_step f s) (words_of_steps (sym (keeps a b (RuleSteps.step s RuleSteps.none)) ∙ f) p)

  leads_to_words : LeadsToWords R
  leads_to_words φ w f p = steps_of_words φ (encode φ) w f refl p

  words_related : WordsRelatedBy R
  words_related φ ψ f g = (there, words_of_steps f)
    where
      there : WordRuleSteps R (encode φ) (encode ψ) → RuleSteps R φ ψ
      there p =
          let r = leads_to_words φ (encode ψ) f p in
          subst (λ (χ : Term). RuleSteps R φ χ) (sym (encode_inj ψ r.0 g (sym (keeps φ r.0 r.1) ∙ f) r.2)) r.1

pub turn_words_related : WordsRelatedBy Turn
turn_words_related = words_related (λ a b p. (rewrites_keep_form a b (turns_are-rewrites p)).same_fits)

pub rewrite_leads_to_words : LeadsToWords Rewrite
rewrite_leads_to_words = leads_to_words (λ a b p. (rewrites_keep_form a b p).same_fits)

pub rewrite_words_related : WordsRelatedBy Rewrite
rewrite_words_related = words_related (λ a b p. (rewrites_keep_form a b p).same_fits)

-- ── a wider rule ──
pub wider_rule : WiderRule
wider_rule R S wider v w (WordRuleSteps.none e) = WordRuleSteps.none e
wider_rule R S wider v w (WordRuleSteps.step {v = u} s p) = WordRuleSteps.step
    (record { before = s.before; after = s.after; old = s.old; new = s.new; rule = wider s.old s.new s.rule; layout = s.layout; is_old = s.is_old; is_new = s.is_new })
    (wider_rule R S wider u w p)

-- ── exchanging and regrouping are one of the rules ──
words_to_rule : (v w : List ℕ) → WordSteps v w → WordRuleSteps Turn v w
words_to_rule v w (WordSteps.none e) = WordRuleSteps.none e
words_to_rule v w (WordSteps.step {v = u} s p) = WordRuleSteps.step
    (record { before = s.before; after = s.after; old = s.old; new = s.new; rule = s.turn; layout = s.layout; is_old = s.is_old; is_new = s.is_new })
    (words_to_rule u w p)

words_of_rule : (v w : List ℕ) → WordRuleSteps Turn v w → WordSteps v w
words_of_rule v w (WordRuleSteps.none e) = WordSteps.none e
words_of_rule v w (WordRuleSteps.step {v = u} s p) = WordSteps.step
    (record { before = s.before; after = s.after; old = s.old; new = s.new; turn = s.rule; layout = s.layout; is_old = s.is_old; is_new = s.is_new })
    (words_of_rule u w p)

pub word_steps_by_turn : WordStepsByTurn
word_steps_by_turn v w = (words_to_rule v w, words_of_rule v w)
