-- The text of the term that words begin with, by the sides of its first word: what each call is handed, and that what it puts is the text.
use mathlib.Core.Path.{◌≡◌, refl, sym, ap, subst, ◌∙◌}
use mathlib.Core.Bool.{So, not}
use mathlib.Core.List.{List, [], ◌++◌, append_assoc, append-nil}
use Prim.Native.Nat.{ℕ, ◌+◌, ◌-◌, ◌≤◌, ◌^◌}
use native.Mathlib.Omega.{arith}
use lib.Dec.{ltb, eqb}
use lib.ListN.{length, get_or, drop, length-append, get_or-append}
use lib.Seq.{drop_at, drop-drop, drop-append-le}
use borrow.Rule.Slice.PartMut.{put_mid}
use Rattle.soda.specs.Lists.{from}
use Rattle.soda.specs.Terms.{Op, either, both, together, apart, Term, everyone, role, set, ¬ᵗ◌, ◌⁺, bin, size}
use Rattle.soda.specs.Words.{word, op_kind, encode, declared}
use Rattle.soda.proofs.Bools.{and_split, so_lt}
use Rattle.soda.proofs.Lists.{from-drop}
use Rattle.soda.proofs.Terms.{size_pos}
use Rattle.soda.proofs.Words.{encode-length}
use Rattle.policy.specs.Words.{Kind, everyone_k, role_k, set_k, op_k, kind, operand, sides, kind_of}
use Rattle.policy.proofs.Grammar.{op_sides}
use Rattle.policy.proofs.Encoding.{kind-word}
use Rattle.text.specs.Texts.{ascii, opening, op_text, text, policy_text}
use Rattle.text.specs.Puts.{Put}
use Rattle.printer.specs.Private.{head_text, operator_text, leaf_text, NamesLeaf, Spelt, TermPut, PolicySpelt}
use Rattle.text.specs.declared.Span.{Span}
use Rattle.text.proofs.Putting.{Begun, start-put, part_room, part_put, all-put}

-- ── a term's sides ──
abbrev pub first_of : Term → Term
first_of everyone = everyone
first_of (role r) = role r
first_of (set m) = set m
first_of (¬ᵗ φ) = φ
first_of (φ ⁺) = φ
first_of (bin op φ ψ) = φ

abbrev pub second_of : Term → Term
second_of everyone = everyone
second_of (role r) = role r
second_of (set m) = set m
second_of (¬ᵗ φ) = φ
second_of (φ ⁺) = φ
second_of (bin op φ ψ) = ψ

-- the words and the text behind the first side
abbrev words_behind : Term → List ℕ
words_behind everyone = []
words_behind (role r) = []
words_behind (set m) = []
words_behind (¬ᵗ φ) = []
words_behind (φ ⁺) = []
words_behind (bin op φ ψ) = encode ψ

abbrev pub text_behind : Term → List ℕ
text_behind everyone = []
text_behind (role r) = []
text_behind (set m) = []
text_behind (¬ᵗ φ) = []
text_behind (φ ⁺) = []
text_behind (bin op φ ψ) = op_text op ++ (text ψ ++ ascii ")")

-- ── by the sides of its first word ──
-- the kind of a word by 01's table
abbrev pub table : ℕ → Kind
table w = kind_of (kind w)

module _ (w : ℕ) (φ : Term) where
  pub record None : Type 0 where
    pub long : size φ ≡ 1
    pub names : NamesLeaf (table w) (operand w)
    pub spells : text φ ≡ leaf_text (table w) (operand w)

  pub record First : Type 0 where
    pub fit : So (declared 16 16 (first_of φ))
    pub shorter : 1 + size (first_of φ) ≤ size φ
    pub behind : drop 1 (encode φ) ≡ encode (first_of φ) ++ words_behind φ
    pub spells : text φ ≡ head_text (table w) ++ (text (first_of φ) ++ text_behind φ)

  pub record One : Type 0 where
    pub long : size φ ≡ 1 + size (first_of φ)
    pub ends : text_behind φ ≡ []

  pub record Two : Type 0 where
    pub fit : So (declared 16 16 (second_of φ))
    pub long : size φ ≡ 1 + (size (first_of φ) + size (second_of φ))
    pub behind : words_behind φ ≡ encode (second_of φ)
    pub spells : text_behind φ ≡ operator_text (table w) ++ (text (second_of φ) ++ ascii ")")

  data Sides : ℕ → Type 0 where
    none : None → Sides 0
    one : First → One → Sides 1
    two : First → Two → Sides 2

op_table : (op : Op) → kind_of (op_kind op) ≡ op_k op
op_table either = refl
op_table both = refl
op_table together = refl
op_table apart = refl

sided : (φ : Term) → So (declared 16 16 φ) → let w = get_or (encode φ) 0 0 in Sides w φ (sides (kind w))
sided everyone f = none (record { long = refl; names = λ e. absurd (let z : role_k ≡ everyone_k = sym e in cc); spells = refl })
sided (role r) f =
    let h = so_lt r 16 f in
    let k = kind-word 2 r (omega arith) in
    let x : operand (word 2 r) ≡ r = omega arith in
    rw k (none (record { long = refl; names = λ e. omega (arith, x); spells = rw (k, x) refl }))
sided (set m) f =
    let h = so_lt m (2 ^ 16) (and_split (not (eqb m 0)) (ltb m (2 ^ 16)) f).1 in
    let k = kind-word 3 m h in
    let x : operand (word 3 m) ≡ m = omega arith in
    rw k (none (record { long = refl; names = λ e. absurd (let z : set_k ≡ role_k = rw k at e in cc); spells = rw (k, x) refl }))
sided (¬ᵗ φ) f = one (record { fit = f; shorter = omega arith; behind = sym (append-nil (encode φ)); spells = rw append-nil }) (record { long = refl; ends = refl })
sided (φ ⁺) f = one (record { fit = f; shorter = omega arith; behind = sym (append-nil (encode φ)); spells = rw append-nil }) (record { long = refl; ends = refl })
sided (bin op φ ψ) f =
    let s = and_split (declared 16 16 φ) (declared 16 16 ψ) f in
    let k = kind-word (op_kind op) 0 (omega arith) in
    rw (k, op_sides op) (two
    (record { fit = s.0; shorter = omega arith; behind = refl; spells = rw (k, op_table op) refl })
    (record { fit = s.1; long = refl; behind = refl; spells = rw (k, op_table op) refl }))

-- ── the first term of the words ──
module _ {ws : List ℕ} {n : ℕ} (s : Spelt ws n) where
  abbrev w : ℕ
  w = get_or ws 0 0

  some_words : 1 ≤ length (encode s.term)
  some_words = omega (arith, encode-length s.term, size_pos s.term)

  pub spelt-long : size s.term ≤ length ws
  spelt-long = omega (arith, ap length s.words, length-append (encode s.term) s.rest, encode-length s.term)

  pub spelt-some : 1 ≤ length ws
  spelt-some = omega (arith, spelt-long, size_pos s.term)

  first_word : w ≡ get_or (encode s.term) 0 0
  first_word = ap (λ (l : List ℕ). get_or l 0 0) s.words ∙ get_or-append (encode s.term) s.rest 0 0 some_words

  -- the words behind the first
  behind-first : drop 1 ws ≡ drop 1 (encode s.term) ++ s.rest
  behind-first = ap (drop 1) s.words ∙ drop-append-le 1 (encode s.term) s.rest some_words

  -- the first word has m sides
  module _ {m : ℕ} (e : m ≡ sides (kind w)) where
    by_sides_lem : Sides w s.term m
    by_sides_lem = rw (e, first_word) (sided s.term s.fit)

    pub no_side : m ≡ 0 → None w s.term
    no_side z = go by_sides_lem z
      where
        go : {m : ℕ} → Sides w s.term m → m ≡ 0 → None w s.term
        go (none r) d = r
        go (one r q) d = absurd (omega arith)
        go (two r q) d = absurd (omega arith)

    a_side : (m ≡ 0 → ⊥) → First w s.term
    a_side z = go by_sides_lem z
      where
        go : {m : ℕ} → Sides w s.term m → (m ≡ 0 → ⊥) → First w s.term
        go (none r) d = absurd (d refl)
        go (one r q) d = r
        go (two r q) d = r

    one_side : m ≡ 1 → One w s.term
    one_side z = go by_sides_lem z
      where
        go : {m : ℕ} → Sides w s.term m → m ≡ 1 → One w s.term
        go (none r) d = absurd (omega arith)
        go (one r q) d = q
        go (two r q) d = absurd (omega arith)

    two-sides : (m ≡ 0 → ⊥) → (m ≡ 1 → ⊥) → Two w s.term
    two-sides z y = go by_sides_lem z y
      where
        go : {m : ℕ} → Sides w s.term m → (m ≡ 0 → ⊥) → (m ≡ 1 → ⊥) → Two w s.term
        go (none r) d c = absurd (d refl)
        go (one r q) d c = absurd (c refl)
        go (two r q) d c = q

-- what is put has room, and its words are there
pub bounded : {ws out : List ℕ} (s : Spelt ws (length out)) {r : Span} {new : List ℕ} → (r.words ≡ size s.term) × Put (text s.term) out r.bytes new
    → (r.bytes ≤ length out) × (r.words ≤ length ws)
bounded s p = let c = p.1.count in let r = s.room in (omega (arith, c, r), omega (arith, p.0, spelt-long s))

-- ── a term of one word ──
module _ (ws out : List ℕ) (s : Spelt ws (length out)) {k : Kind} {x : ℕ} (is : k ≡ table (get_or ws 0 0)) (named : x ≡ operand (get_or ws 0 0))
    (leaf : None (get_or ws 0 0) s.term) where
  spells-leaf : text s.term ≡ leaf_text k x
  spells-leaf = rw (is, named) leaf.spells

  pub leaf_room : NamesLeaf k x × (length (leaf_text k x) ≤ length out)
  leaf_room = (rw (is, named) leaf.names, rw spells-leaf at s.room)

  pub leaf_put : {n : ℕ} {new : List ℕ} → Put (leaf_text k x) out n new → (1 ≡ size s.term) × Put (text s.term) out n new
  leaf_put p = (sym leaf.long, rw spells-leaf p)

-- ── a term with sides: head is what stands before the first ──
module _ (ws out : List ℕ) (s : Spelt ws (length out)) {m : ℕ} (e : m ≡ sides (kind (get_or ws 0 0))) (some : m ≡ 0 → ⊥)
    {head : List ℕ} (is : head ≡ head_text (table (get_or ws 0 0))) where
  abbrev φ : Term
  φ = first_of s.term

  first : First (get_or ws 0 0) s.term
  first = a_side s e some

  spells : text s.term ≡ head ++ (text φ ++ text_behind s.term)
  spells = rw is first.spells

  whole : length (head ++ (text φ ++ text_behind s.term)) ≤ length out
  whole = rw spells at s.room

  pub head-room : length head ≤ length out
  head-room = omega (arith, whole, length-append head (text φ ++ text_behind s.term))

  words-behind : drop 1 ws ≡ encode φ ++ (words_behind s.term ++ s.rest)
  words-behind =
      behind-first s ∙ ap (λ (l : List ℕ). l ++ s.rest) first.behind
      ∙ append_assoc (encode φ) (words_behind s.term) s.rest

  -- it is put
  module _ {n : ℕ} {new : List ℕ} (p : Put head out n new) where
    headed : Begun (text s.term) out n new (text φ ++ text_behind s.term)
    headed = subst (λ (l : List ℕ). Begun l out n new (text φ ++ text_behind s.term)) (sym spells) (start-put (text φ ++ text_behind s.term) p whole)

    pub to_first : Spelt (from 1 ws) (length (from n new))
    to_first = record {
      term = φ;
      rest = words_behind s.term ++ s.rest;
      words = from-drop 1 ws ∙ words-behind;
      fit = first.fit;
      room = part_room (text φ) (text_behind s.term) headed;
    }

    -- the first side is put
    module _ {r : Span} {part : List ℕ} (f : TermPut (from 1 ws) (from n new) r part) where
      abbrev end1 : ℕ
      end1 = n + r.bytes

      abbrev new1 : List ℕ
      new1 = put_mid n (length new - n) new part

      once : (r.words ≡ size φ) × Begun (text s.term) out end1 new1 (text_behind s.term)
      unfolding to_first
      once = let q = f to_first in (q.0, part_put (text φ) (text_behind s.term) headed q.1)

      pub alone : m ≡ 1 → (1 + r.words ≡ size s.term) × Put (text s.term) out end1 new1
      alone z =
          let o = one_side s e z in
          let l = o.long in
          (omega (arith, once.0, l), all-put (subst (λ (l : List ℕ). Begun (text s.term) out end1 new1 l) o.ends once.1))

      -- ── the second side: operator is what stands before it ──
      module _ (more : m ≡ 1 → ⊥) {operator : List ℕ} (between : operator ≡ operator_text (table (get_or ws 0 0))) where
        abbrev ψ : Term
        ψ = second_of s.term

        pair : Two (get_or ws 0 0) s.term
        pair = two-sides s e some more

        next : Begun (text s.term) out end1 new1 (operator ++ (text ψ ++ ascii ")"))
        next = subst (λ (l : List ℕ). Begun (text s.term) out end1 new1 l) (rw between pair.spells) once.1

        pub operator-room : length operator ≤ length (from end1 new1)
        operator-room = part_room operator (text ψ ++ ascii ")") next

        words-second : from (1 + r.words) ws ≡ encode ψ ++ s.rest
        words-second =
            from-drop (1 + r.words) ws ∙ sym (drop-drop r.words 1 ws) ∙ ap (drop r.words) words-behind
            ∙ drop_at (encode φ) (words_behind s.term ++ s.rest) r.words (encode-length φ ∙ sym once.0)
            ∙ ap (λ (l : List ℕ). l ++ s.rest) pair.behind

        -- it is put
        module _ {o : ℕ} {middle : List ℕ} (q : Put operator (from end1 new1) o middle) where
          abbrev start2 : ℕ
          start2 = end1 + o

          abbrev new2 : List ℕ
          new2 = put_mid end1 (length new1 - end1) new1 middle

          parted : Begun (text s.term) out start2 new2 (text ψ ++ ascii ")")
          parted = part_put operator (text ψ ++ ascii ")") next q

          pub to_second : Spelt (from (1 + r.words) ws) (length (from start2 new2))
          to_second = record {
            term = ψ;
            rest = s.rest;
            words = words-second;
            fit = pair.fit;
            room = part_room (text ψ) (ascii ")") parted;
          }

          -- both sides are put
          pub twice : {v : Span} {last : List ℕ} → TermPut (from (1 + r.words) ws) (from start2 new2) v last
              → (1 + r.words + v.words ≡ size s.term) × Begun (text s.term) out (start2 + v.bytes) (put_mid start2 (length new2 - start2) new2 last) (ascii ")")
          unfolding to_second
          twice g =
              let q = g to_second in
              let l = pair.long in
              (omega (arith, once.0, q.0, l), part_put (text ψ) (ascii ")") parted q.1)

-- ── behind the opening bytes ──
module _ (ws out : List ℕ) (s : PolicySpelt ws (length out)) where
  abbrev χ : Term
  χ = s.spelt.term

  pub opening-put : {n : ℕ} {new : List ℕ} → Put opening out n new → Begun (policy_text χ) out n new (text χ ++ [])
  opening-put p = rw (append-nil (text χ)) (start-put (text χ) p s.room)

  module _ {n : ℕ} {new : List ℕ} (g : Begun (policy_text χ) out n new (text χ ++ [])) where
    pub term-spelt : Spelt ws (length (from n new))
    term-spelt = record { term = χ; rest = s.spelt.rest; words = s.spelt.words; fit = s.spelt.fit; room = part_room (text χ) [] g }

    pub term-put : {r : Span} {part : List ℕ} → TermPut ws (from n new) r part → Begun (policy_text χ) out (n + r.bytes) (put_mid n (length new - n) new part) []
    unfolding term-spelt
    term-put f = part_put (text χ) [] g (f term-spelt).1
