-- Laws of words: their order is total, transitive and antisymmetric; a term is read from its words in one way; how many there are.
use mathlib.Core.Path.{◌≡◌, refl, sym, ◌∙◌, ap, ap₂}
use mathlib.Core.Logic.{◌⊎◌, inl, inr}
use mathlib.Core.Bool.{Bool, false, So, not, ◌&&◌, ◌||◌, cond, true≢false}
use mathlib.Core.List.{List, [], ◌∷◌, ◌++◌, map, tail, map-append, append_assoc, append-nil}
use Prim.Native.Nat.{ℕ, ◌^◌, ◌<◌}
use native.Mathlib.Nat.{pow-le-pow_right}
use native.Mathlib.Omega.{arith}
use lib.Dec.{ltb, eqb, lit<}
use lib.ListN.{length, get_or, length-map}
use Rattle.soda.specs.Terms.{Op, either, both, together, apart, Term, everyone, role, set, ¬ᵗ◌, ◌⁺, bin, subterms}
use Rattle.soda.specs.Words.{word, op_kind, encode, fits, declared, words_le, term_le}
use Rattle.soda.specs.Laws.{EncodeLength, OpHigh, SameKind, WordsTrans, CompareInPlace}
use Rattle.soda.specs.EqualForms.{WordsAreOneTerm, DeclaredFits}
use Rattle.soda.proofs.Terms.{subterms-length}
use Rattle.soda.proofs.Bools.{never, not_so, and_split, and-join, or_split, or_left, or_right, lt_so, so_lt, eq_so, so_eq, less, same, more, order}

-- ── the order ──
-- what the order says of two words
le_cons : (a b : ℕ) (u v : List ℕ) → So (words_le (a ∷ u) (b ∷ v)) → (a < b) ⊎ ((a ≡ b) × So (words_le u v))
le_cons a b u v e = elim (or_split (ltb a b) (eqb a b && words_le u v) e) [
  | inl p ↦ inl (so_lt a b p)
  | inr p ↦ let q = and_split (eqb a b) (words_le u v) p in inr (so_eq a b q.0, q.1)
]

le_below : (a b : ℕ) (u v : List ℕ) → a < b → So (words_le (a ∷ u) (b ∷ v))
le_below a b u v h = or_left (ltb a b) (eqb a b && words_le u v) (lt_so a b h)

le_beside : (a b : ℕ) (u v : List ℕ) → a ≡ b → So (words_le u v) → So (words_le (a ∷ u) (b ∷ v))
le_beside a b u v e h = or_right (ltb a b) (eqb a b && words_le u v) (and-join (eqb a b) (words_le u v) (eq_so a b e) h)

words-total : (u v : List ℕ) → words_le u v ≡ false → So (words_le v u)
words-total [] v e = absurd (true≢false e)
words-total (a ∷ u) [] e = refl
words-total (a ∷ u) (b ∷ v) e = elim (order a b) [
  | less h ↦ absurd (true≢false (sym (le_below a b u v h) ∙ e))
  | same p ↦ le_beside b a v u (sym p) (words-total u v (not_so (words_le u v) λ q. true≢false (sym (le_beside a b u v p q) ∙ e)))
  | more h ↦ le_below b a v u h
]

pub words_trans : WordsTrans
words_trans [] v w p q = refl
words_trans (a ∷ u) [] w p q = never p
words_trans (a ∷ u) (b ∷ v) [] p q = never q
words_trans (a ∷ u) (b ∷ v) (c ∷ w) p q = elim (le_cons a b u v p) [
  | inl h ↦ elim (le_cons b c v w q) [ inl k ↦ le_below a c u w (omega arith) | inr k ↦ le_below a c u w (omega arith) ]
  | inr h ↦ elim (le_cons b c v w q) [
    | inl k ↦ le_below a c u w (omega arith)
    | inr k ↦ le_beside a c u w (h.0 ∙ k.0) (words_trans u v w h.1 k.1)
  ]
]

words_antisym : (u v : List ℕ) → So (words_le u v) → So (words_le v u) → u ≡ v
words_antisym [] [] p q = refl
words_antisym [] (b ∷ v) p q = never q
words_antisym (a ∷ u) [] p q = never p
words_antisym (a ∷ u) (b ∷ v) p q = elim (le_cons a b u v p) [
  | inl h ↦ elim (le_cons b a v u q) [ inl k ↦ absurd (omega arith) | inr k ↦ absurd (omega arith) ]
  | inr h ↦ elim (le_cons b a v u q) [
    | inl k ↦ absurd (omega arith)
    | inr k ↦ λ i. h.0 i ∷ words_antisym u v h.1 k.1 i
  ]
]

-- ── the operators' kinds ──
pub op_high : OpHigh
op_high either = omega arith
op_high both = omega arith
op_high together = omega arith
op_high apart = omega arith

pub same_kind : SameKind
same_kind either = elim [ either ↦ refl | both ↦ refl | together ↦ refl | apart ↦ refl ]
same_kind both = elim [ either ↦ refl | both ↦ refl | together ↦ refl | apart ↦ refl ]
same_kind together = elim [ either ↦ refl | both ↦ refl | together ↦ refl | apart ↦ refl ]
same_kind apart = elim [ either ↦ refl | both ↦ refl | together ↦ refl | apart ↦ refl ]

-- ── a term's first word, and the terms under it ──
abbrev pub tag : Term → ℕ
tag everyone = 1
tag (role r) = 2
tag (set m) = 3
tag (¬ᵗ φ) = 4
tag (φ ⁺) = 5
tag (bin op φ ψ) = op_kind op

abbrev pub operand : Term → ℕ
operand everyone = 0
operand (role r) = r
operand (set m) = m
operand (¬ᵗ φ) = 0
operand (φ ⁺) = 0
operand (bin op φ ψ) = 0

abbrev pub code : Term → ℕ
code φ = word (tag φ) (operand φ)

-- a term's words are the first words of the terms that begin at them
encode_codes : (φ : Term) → encode φ ≡ map code (subterms φ)
encode_codes everyone = refl
encode_codes (role r) = refl
encode_codes (set m) = refl
encode_codes (¬ᵗ φ) = λ i. word 4 0 ∷ encode_codes φ i
encode_codes (φ ⁺) = λ i. word 5 0 ∷ encode_codes φ i
encode_codes (bin op φ ψ) =
    ap {B = List ℕ} (λ r. word (op_kind op) 0 ∷ r) ((λ i. encode_codes φ i ++ encode_codes ψ i) ∙ sym (map-append code (subterms φ) (subterms ψ)))

pub encode-length : EncodeLength
encode-length φ = ap (λ (l : List ℕ). length l) (encode_codes φ) ∙ length-map (subterms φ) code ∙ subterms-length φ

-- ── reading ──
-- the terms right under a term; `everyone` stands where there is none
abbrev side : Term → Term × Term
side everyone = (everyone, everyone)
side (role r) = (everyone, everyone)
side (set m) = (everyone, everyone)
side (¬ᵗ φ) = (φ, everyone)
side (φ ⁺) = (φ, everyone)
side (bin op φ ψ) = (φ, ψ)

-- a term from its kind, its operand and its sides
abbrev op_of : ℕ → Op
op_of k = cond (eqb k 6) either (cond (eqb k 7) both (cond (eqb k 8) together apart))

abbrev build : ℕ → ℕ → Term × Term → Term
build k x s = cond (eqb k 1) everyone (cond (eqb k 2) (role x) (cond (eqb k 3) (set x)
    (cond (eqb k 4) (¬ᵗ s.0) (cond (eqb k 5) (s.0 ⁺) (bin (op_of k) s.0 s.1)))))

build_op : (op : Op) (s : Term × Term) → build (op_kind op) 0 s ≡ bin op s.0 s.1
build_op either s = refl
build_op both s = refl
build_op together s = refl
build_op apart s = refl

build_self : (φ : Term) → build (tag φ) (operand φ) (side φ) ≡ φ
build_self everyone = refl
build_self (role r) = refl
build_self (set m) = refl
build_self (¬ᵗ φ) = refl
build_self (φ ⁺) = refl
build_self (bin op φ ψ) = build_op op (φ, ψ)

first_word : (φ : Term) (p : List ℕ) → get_or (encode φ ++ p) 0 0 ≡ code φ
first_word everyone p = refl
first_word (role r) p = refl
first_word (set m) p = refl
first_word (¬ᵗ φ) p = refl
first_word (φ ⁺) p = refl
first_word (bin op φ ψ) p = refl

operand_small : (φ : Term) → So (fits φ) → operand φ < 2 ^ 16
operand_small everyone f = omega arith
operand_small (role r) f = so_lt r (2 ^ 16) f
operand_small (set m) f = so_lt m (2 ^ 16) f
operand_small (¬ᵗ φ) f = omega arith
operand_small (φ ⁺) f = omega arith
operand_small (bin op φ ψ) f = omega arith

-- Words that begin with the words of φ and of ψ: ψ has the kind and the operand of φ.
read_shape : (φ ψ : Term) (p q : List ℕ) → So (fits φ) → So (fits ψ) → encode φ ++ p ≡ encode ψ ++ q → build (tag φ) (operand φ) (side ψ) ≡ ψ
read_shape φ ψ p q f g e = (λ i. build (kinds i) (operands i) (side ψ)) ∙ build_self ψ
  where
    codes : code φ ≡ code ψ
    codes = sym (first_word φ p) ∙ ap (λ (l : List ℕ). get_or l 0 0) e ∙ first_word ψ q

    kinds : tag φ ≡ tag ψ
    kinds = omega (arith, codes, operand_small φ f, operand_small ψ g)

    operands : operand φ ≡ operand ψ
    operands = omega (arith, codes, operand_small φ f, operand_small ψ g)

-- The words after the first agree too; χ is ψ with its shape in sight.
read_rest : (φ χ ψ : Term) (p q : List ℕ) → χ ≡ ψ → encode φ ++ p ≡ encode ψ ++ q → tail (encode φ ++ p) ≡ tail (encode χ ++ q)
read_rest φ χ ψ p q s e = ap (λ (l : List ℕ). tail l) (e ∙ ap (λ (t : Term). encode t ++ q) (sym s))

pub words-are-one-term : WordsAreOneTerm
words-are-one-term everyone ψ p q f g e = let s = read_shape everyone ψ p q f g e in (s, read_rest everyone everyone ψ p q s e)
words-are-one-term (role r) ψ p q f g e = let s = read_shape (role r) ψ p q f g e in (s, read_rest (role r) (role r) ψ p q s e)
words-are-one-term (set m) ψ p q f g e = let s = read_shape (set m) ψ p q f g e in (s, read_rest (set m) (set m) ψ p q s e)
words-are-one-term (¬ᵗ φ) ψ p q f g e =
    let a = (side ψ).0 in
    let s = read_shape (¬ᵗ φ) ψ p q f g e in
    let r = words-are-one-term φ a p q f (ap fits s ∙ g) (read_rest (¬ᵗ φ) (¬ᵗ a) ψ p q s e) in
    (ap ¬ᵗ◌ r.0 ∙ s, r.1)
words-are-one-term (φ ⁺) ψ p q f g e =
    let a = (side ψ).0 in
    let s = read_shape (φ ⁺) ψ p q f g e in
    let r = words-are-one-term φ a p q f (ap fits s ∙ g) (read_rest (φ ⁺) (a ⁺) ψ p q s e) in
    (ap ◌⁺ r.0 ∙ s, r.1)
words-are-one-term (bin op φ χ) ψ p q f g e =
    let a = (side ψ).0 in
    let b = (side ψ).1 in
    let s = sym (build_op op (side ψ)) ∙ read_shape (bin op φ χ) ψ p q f g e in
    let fs = and_split (fits φ) (fits χ) f in
    let gs = and_split (fits a) (fits b) (ap fits s ∙ g) in
    let rest = sym (append_assoc (encode φ) (encode χ) p) ∙ read_rest (bin op φ χ) (bin op a b) ψ p q s e ∙ append_assoc (encode a) (encode b) q in
    let r = words-are-one-term φ a (encode χ ++ p) (encode b ++ q) fs.0 gs.0 rest in
    let t = words-are-one-term χ b p q fs.1 gs.1 r.1 in
    (ap₂ (bin op) r.0 t.0 ∙ s, t.1)

pub encode_inj : (φ ψ : Term) → So (fits φ) → So (fits ψ) → encode φ ≡ encode ψ → φ ≡ ψ
encode_inj φ ψ f g e = (words-are-one-term φ ψ [] [] f g (ap (λ (l : List ℕ). l ++ []) e)).0

-- no term's words begin another term's
no_prefix : (φ ψ : Term) (m : List ℕ) → So (fits φ) → So (fits ψ) → encode φ ++ m ≡ encode ψ → φ ≡ ψ
no_prefix φ ψ m f g e = (words-are-one-term φ ψ m [] f g (e ∙ sym (append-nil (encode ψ)))).0

-- ── the order on terms ──
pub term-total : (φ ψ : Term) → term_le φ ψ ≡ false → So (term_le ψ φ)
term-total φ ψ = words-total (encode φ) (encode ψ)

pub term_trans : (φ ψ χ : Term) → So (term_le φ ψ) → So (term_le ψ χ) → So (term_le φ χ)
term_trans φ ψ χ = words_trans (encode φ) (encode ψ) (encode χ)

pub term_antisym : (φ ψ : Term) → So (fits φ) → So (fits ψ) → So (term_le φ ψ) → So (term_le ψ φ) → φ ≡ ψ
term_antisym φ ψ f g p q = encode_inj φ ψ f g (words_antisym (encode φ) (encode ψ) p q)

-- neither of two lists begins the other
abbrev Apart : List ℕ → List ℕ → Type 0
Apart u v = ((m : List ℕ) → u ++ m ≡ v → ⊥) × ((m : List ℕ) → v ++ m ≡ u → ⊥)

le_above : (a b : ℕ) (u v : List ℕ) → b < a → words_le (a ∷ u) (b ∷ v) ≡ false
le_above a b u v h = not_so (words_le (a ∷ u) (b ∷ v)) λ e. elim (le_cons a b u v e) [ inl k ↦ omega arith | inr k ↦ omega arith ]

words_in_place : (u v p q : List ℕ) → Apart u v → words_le (u ++ p) (v ++ q) ≡ words_le u v
words_in_place [] v p q h = absurd (h.0 v refl)
words_in_place (a ∷ u) [] p q h = absurd (h.1 (a ∷ u) refl)
words_in_place (a ∷ u) (b ∷ v) p q h = elim (order a b) [
  | less k ↦ le_below a b (u ++ p) (v ++ q) k ∙ sym (le_below a b u v k)
  | same k ↦ ap (λ (x : Bool). ltb a b || (eqb a b && x))
      (words_in_place u v p q (λ m e. h.0 m (λ i. k i ∷ e i), λ m e. h.1 m (λ i. sym k i ∷ e i)))
  | more k ↦ le_above a b (u ++ p) (v ++ q) k ∙ sym (le_above a b u v k)
]

-- two different terms compare as their words do where more words follow
pub compare_in_place : CompareInPlace
compare_in_place φ ψ p q f g d = words_in_place (encode φ) (encode ψ) p q (λ m e. d (no_prefix φ ψ m f g e), λ m e. d (sym (no_prefix ψ φ m g f e)))

-- ── declared terms ──
pub declared-fits : DeclaredFits
declared-fits users roles everyone hu hr e = refl
declared-fits users roles (role r) hu hr e = lt_so r (2 ^ 16) (omega (arith, so_lt r roles e))
declared-fits users roles (set m) hu hr e =
    let k = so_lt m (2 ^ users) (and_split (not (eqb m 0)) (ltb m (2 ^ users)) e).1 in
    lt_so m (2 ^ 16) (omega (arith, k, pow-le-pow_right {n = 2} (lit< tt) hu))
declared-fits users roles (¬ᵗ φ) hu hr e = declared-fits users roles φ hu hr e
declared-fits users roles (φ ⁺) hu hr e = declared-fits users roles φ hu hr e
declared-fits users roles (bin op φ ψ) hu hr e =
    let k = and_split (declared users roles φ) (declared users roles ψ) e in
    and-join (fits φ) (fits ψ) (declared-fits users roles φ hu hr k.0) (declared-fits users roles ψ hu hr k.1)
