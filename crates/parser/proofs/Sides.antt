-- A term from its sides, as code reads it: what is found, and where there is no room or nothing to find.
use mathlib.Core.Path.{◌≡◌, refl, sym, ap, subst, ◌∙◌}
use mathlib.Core.Bool.{Bool, true, false}
use mathlib.Core.List.{List, ◌∷◌, ◌++◌}
use mathlib.Core.Option.{Option, some, none, none-ne-some}
use Prim.Native.Nat.{ℕ, zero, suc, ◌+◌, ◌-◌, ◌≤◌, ◌<◌}
use native.Mathlib.Omega.{arith}
use borrow.Author.Tests.{le-leb, lt-leb, leb-true, leb-false, eqb-true, eqb-false}
use lib.Dec.{leb, eqb}
use lib.ListN.{length, get_or, take, drop, set}
use lib.Seq.{drop-drop}
use borrow.Rule.Slice.PartMut.{put_mid}
use Rattle.std.specs.Prelude.{Some, None}
use Rattle.std.specs.Cmp.Lexicographic.{pointwise}
use Rattle.soda.specs.Lists.{from}
use Rattle.soda.specs.Terms.{Term, bin, size}
use Rattle.soda.specs.Words.{encode}
use Rattle.soda.proofs.Bools.{by_test}
use Rattle.soda.proofs.Lists.{from-drop, from-length}
use Rattle.soda.proofs.Terms.{size_pos}
use Rattle.soda.proofs.Words.{encode-length}
use Rattle.text.specs.Texts.{ascii}
use Rattle.text.specs.Grammar.{Read, upon, behind, keyword, leaf_in, over, pair, head_in, operator_in, sides_in, term_in}
use Rattle.text.specs.Grammar as Grammar
use Rattle.text.specs.Puts.{Put}
use Rattle.text.specs.declared.Span.{Span}
use Rattle.text.proofs.Beginnings.{Finds, finds_upon, finds_one, finds_keyword}
use Rattle.text.proofs.Putting.{put-length, put-behind, put_nothing, put_first}
use Rattle.parser.specs.Private.{LeafWord, HeadWord, OperatorWord, LeafRead, HeadRead, OperatorRead, fitting, Worded, Parsed}
use Rattle.parser.specs.declared.tokens.Head.{Head}
use Rattle.parser.specs.declared.tokens.Head.TheVariants.{Over, Pair}
use Rattle.parser.specs.declared.tokens.Token.{Token}
use Rattle.parser.proofs.Readers.{begun, not-begun, Got, missing, there, got}

-- ── room for a term ──
too_large : (w : ℕ) (φ : Term × List ℕ) → w < size φ.0 → fitting w (some φ) ≡ none
too_large w φ h = rw (lt-leb (size φ.0) w h) refl

pub fits : (w : ℕ) (φ : Term × List ℕ) → size φ.0 ≤ w → fitting w (some φ) ≡ some φ
fits w φ h = rw (le-leb (size φ.0) w h) refl

pub no_room : (o : Read Term) → fitting 0 o ≡ none
no_room none = refl
no_room (some φ) = too_large 0 φ (omega (arith, size_pos φ.0))

pub fitting-some : (w : ℕ) (o : Read Term) (φ : Term × List ℕ) → fitting w o ≡ some φ → (o ≡ some φ) × (size φ.0 ≤ w)
fitting-some w none φ e = absurd (none-ne-some φ e)
fitting-some w (some ψ) φ e = by_test (leb (size ψ.0) w)
    (λ p. let z : some ψ ≡ some φ = rw p at e in (z, (let q : ψ ≡ φ = cc in rw q at (leb-true (size ψ.0) w p))))
    (λ p. absurd (none-ne-some φ (rw p at e)))

-- a term that is larger by d than a side for which there is no room
large_still : (d w : ℕ) (o : Read Term) (K : Term × List ℕ → Read Term)
    → ((φ : Term × List ℕ) → Finds (K φ) (λ ψ. d + size φ.0 ≤ size ψ.0)) → fitting w o ≡ none → fitting (d + w) (upon o K) ≡ none
large_still d w none K f e = refl
large_still d w (some φ) K f e = beyond (K φ) (f φ)
  where
    larger : w < size φ.0
    larger = by_test (leb (size φ.0) w)
        (λ p. let z : some φ ≡ none = rw p at e in absurd (none-ne-some φ (sym z)))
        (λ p. leb-false (size φ.0) w p)

    beyond : (o : Read Term) → Finds o (λ ψ. d + size φ.0 ≤ size ψ.0) → fitting (d + w) o ≡ none
    beyond none g = refl
    beyond (some ψ) g = too_large (d + w) ψ (omega (arith, g.has ψ refl, larger))

-- ── the answer ──
module _ (t out new : List ℕ) where
  parsed_none : ((n : ℕ) → length t ≤ suc n → fitting (length out) (term_in (suc n) t) ≡ none) → Parsed t out None new
  parsed_none f zero h = tt
  parsed_none f (suc n) h = rw (f n h) tt

  parsed_some : (r : Span) → 1 ≤ r.bytes → r.bytes ≤ length t
      → ((n : ℕ) → length t ≤ suc n → (φ : Term) × (term_in (suc n) t ≡ some (φ, drop r.bytes t)) × Worded out r new φ) → Parsed t out (Some r) new
  parsed_some r h w f zero k = absurd (omega arith)
  parsed_some r h w f (suc n) k =
      let (φ, e, p) = f n k in
      rw (ap (fitting (length out)) e ∙ fits (length out) (φ, drop r.bytes t) p.room) (record { some_bytes = h; within = w; left = refl }, p)

  -- no room at all
  pub parsed_nowhere : true ≡ eqb (length out) 0 → Parsed t out None new
  parsed_nowhere e =
      let z : length out ≡ 0 = eqb-true (length out) 0 (sym e) in
      parsed_none (λ n h. rw z (no_room (term_in (suc n) t)))

some_room : (out : List ℕ) → false ≡ eqb (length out) 0 → 1 ≤ length out
some_room out e = omega (arith, eqb-false (length out) 0 (sym e))

-- ── a side, at place m ──
pub record Side (t out : List ℕ) (m : ℕ) (r : Span) (new : List ℕ) (n : ℕ) : Type 0 where
  pub term : Term
  pub same : term_in n (drop m t) ≡ some (term, drop (m + r.bytes) t)
  pub worded : Worded out r new term
  pub some_bytes : m < m + r.bytes
  pub within : m + r.bytes ≤ length t

module _ (t out : List ℕ) (m : ℕ) (new : List ℕ) (n : ℕ) (deep : length t ≤ m + n) where
  long_enough : length (from m t) ≤ n
  long_enough = omega (arith, from-length m t)

  at_place : term_in n (drop m t) ≡ term_in n (from m t)
  at_place = ap (term_in n) (sym (from-drop m t))

  side_missing : Parsed (from m t) out None new → fitting (length out) (term_in n (drop m t)) ≡ none
  side_missing read =
      ap (fitting (length out)) at_place
      ∙ missing (λ s. s.bytes) (λ s. Worded out s new) (fitting (length out) (term_in n (from m t))) (from m t) (read n long_enough)

  side_got : m ≤ length t → (r : Span) → Parsed (from m t) out (Some r) new → Side t out m r new n
  side_got h r read =
      let g = got (λ s. s.bytes) (λ s. Worded out s new) (fitting (length out) (term_in n (from m t))) t m r h (read n long_enough) in
      record {
        term = g.thing;
        same = at_place ∙ (fitting-some (length out) (term_in n (from m t)) (g.thing, drop (m + r.bytes) t) g.same).0;
        worded = g.holds;
        some_bytes = g.some_bytes;
        within = g.within;
      }

-- ── a term of one word ──
module _ (t out : List ℕ) where
  leaf_stands : (k w : ℕ) → 1 ≤ length out → Got (LeafWord w) (leaf_in t) t 0 k → Parsed t out (Some (record { bytes = k; words = 1 })) (set out 0 w)
  leaf_stands k w h l =
      let p = put_first w (put_nothing out h) in
      let e : length (encode l.thing) ≡ 1 = ap length l.holds in
      parsed_some t out (set out 0 w) (record { bytes = k; words = 1 }) (omega (arith, l.some_bytes)) l.within (λ n d.
      (l.thing, rw l.same refl, record { put = rw l.holds p; room = omega (arith, encode-length l.thing) }))

  pub parsed_leaf : (k : Token ℕ) → false ≡ eqb (length out) 0 → LeafRead (leaf_in t) t (Some k)
      → Parsed t out (Some (record { bytes = k.bytes; words = 1 })) (set out 0 k.value)
  parsed_leaf k e read = leaf_stands k.bytes k.value (some_room out e) (there (λ k. k.bytes) (λ k. LeafWord k.value) (leaf_in t) t k read)

-- ── what stands before a side ──
module _ (t : List ℕ) where
  no_leaf : LeafRead (leaf_in t) t None → leaf_in t ≡ none
  no_leaf read = missing (λ k. k.bytes) (λ k. LeafWord k.value) (leaf_in t) t read

  head_got : (head : Token Head) → HeadRead (head_in t) t (Some head) → Got (HeadWord head.value) (head_in t) t 0 head.bytes
  head_got head read = there (λ k. k.bytes) (λ k. HeadWord k.value) (head_in t) t head read

  headed : (n : ℕ) (v : Head) (k : ℕ) (h : Got (HeadWord v) (head_in t) t 0 k) → LeafRead (leaf_in t) t None
      → term_in (suc n) t ≡ sides_in (term_in n) h.thing (drop k t)
  headed n v k h leaf = rw (no_leaf leaf, h.same) refl

  pub parsed_headless : (out : List ℕ) → LeafRead (leaf_in t) t None → HeadRead (head_in t) t None → Parsed t out None out
  parsed_headless out leaf read =
      let e = missing (λ k. k.bytes) (λ k. HeadWord k.value) (head_in t) t read in
      parsed_none t out out (λ n d. rw (no_leaf leaf, e) refl)

-- whatever is found, as long as nothing is asked of it
any : {A : Type 0} (o : Option A) → Finds o (λ a. Unit {0})
any o = record { has = λ a e. tt }

-- there is no room for a first side
no_first : (side : List ℕ → Read Term) (v : Head) (h : Grammar.Head) → HeadWord v h → (room : ℕ) (u : List ℕ) → fitting room (side u) ≡ none
    → fitting (1 + room) (sides_in side h u) ≡ none
no_first side Pair (over f) p room u e = absurd p
no_first side (Over w) (over f) p room u e =
    large_still 1 room (side u) (λ φ. some (f φ.0, φ.1)) (λ φ. finds_one (omega (arith, p.1 φ.0))) e
no_first side v pair p room u e = large_still 1 room (side u)
    (λ φ. upon (operator_in φ.1) (λ op. upon (side op.1) (λ ψ. keyword (ascii ")") (bin op.0 φ.0 ψ.0) ψ.1)))
    (λ φ. finds_upon (any (operator_in φ.1)) (λ op _. finds_upon (any (side op.1)) (λ ψ _.
    finds_keyword (ascii ")") (bin op.0 φ.0 ψ.0) ψ.1 (λ rest _. omega arith)))) e

rest-room : (out : List ℕ) → 1 ≤ length out → 1 + length (from 1 out) ≡ length out
rest-room out h = omega (arith, from-length 1 out)

pub parsed_no_first : (t out : List ℕ) (head : Token Head) (words new : List ℕ) → false ≡ eqb (length out) 0 → LeafRead (leaf_in t) t None
    → HeadRead (head_in t) t (Some head) → Parsed (from head.bytes t) (from 1 out) None words → Parsed t out None new
parsed_no_first t out head words new e leaf head_read read =
    let h = head_got t head head_read in
    parsed_none t out new (λ n d.
    ap (fitting (length out)) (headed t n head.value head.bytes h leaf)
    ∙ ap (λ (x : ℕ). fitting x (sides_in (term_in n) h.thing (drop head.bytes t))) (sym (rest-room out (some_room out e)))
    ∙ no_first (term_in n) head.value h.thing h.holds (length (from 1 out)) (drop head.bytes t)
    (side_missing t (from 1 out) head.bytes words n (omega (arith, h.some_bytes)) read))

-- not or plus over a side
over_side_lem : (side : List ℕ → Read Term) (w : ℕ) (h : Grammar.Head) → HeadWord (Over w) h → (u : List ℕ) (φ : Term) (rest : List ℕ) → side u ≡ some (φ, rest)
    → (χ : Term) × (sides_in side h u ≡ some (χ, rest)) × (encode χ ≡ w ∷ encode φ) × (size χ ≡ 1 + size φ)
over_side_lem side w (over f) p u φ rest e = (f φ, rw e refl, p.0 φ, p.1 φ)
over_side_lem side w pair p u φ rest e = absurd p

is-pair : (h : Grammar.Head) → HeadWord Pair h → h ≡ pair
is-pair (over f) p = absurd p
is-pair pair p = refl

as_head : (h : Grammar.Head) {v w : Head} → v ≡ w → HeadWord v h → HeadWord w h
as_head h e p = rw e at p

-- ── the first side ──
-- its words stand in out behind the first
abbrev pub mid : List ℕ → List ℕ → List ℕ
mid out words = put_mid 1 (length out - 1) out words

-- what stands before it, and what is read of it
pub record First (t out : List ℕ) (head : Token Head) (a : Span) (words : List ℕ) : Type 0 where
  pub empty : false ≡ eqb (length out) 0
  pub leaf : LeafRead (leaf_in t) t None
  pub head_read : HeadRead (head_in t) t (Some head)
  pub read : Parsed (from head.bytes t) (from 1 out) (Some a) words

module _ {t out : List ℕ} {head : Token Head} {a : Span} {words : List ℕ} (f : First t out head a words) where
  abbrev h : Got (HeadWord head.value) (head_in t) t 0 head.bytes
  h = head_got t head f.head_read

  first_side : (n : ℕ) → length t ≤ suc n → Side t (from 1 out) head.bytes a words n
  first_side n d = side_got t (from 1 out) head.bytes words n (omega (arith, h.some_bytes)) h.within a f.read

  -- it is read at any depth: at this one, whatever is asked of its length
  deep : length t ≤ suc (length t)
  deep = omega arith

  abbrev first_found : Side t (from 1 out) head.bytes a words (length t)
  first_found = first_side (length t) deep

  first-within : head.bytes + a.bytes ≤ length t
  first-within = first_found.within

  first-room : 1 + a.words ≤ length out
  first-room = let s = first_found in omega (arith, s.worded.put.count, encode-length s.term, s.worded.room, rest-room out (some_room out f.empty))

  first-put : (n : ℕ) (d : length t ≤ suc n) → Put (get_or out 0 0 ∷ encode (first_side n d).term) out (1 + a.words) (mid out words)
  first-put n d = put-behind (put_nothing out (some_room out f.empty)) (first_side n d).worded.put

  mid_length : length (mid out words) ≡ length out
  mid_length =
      let s = first_found in
      put-length (first-put (length t) deep) (omega (arith, encode-length s.term, s.worded.room, rest-room out (some_room out f.empty)))

  -- not or plus
  pub parsed_over : {w : ℕ} → head.value ≡ Over w → Parsed t out (Some (record { bytes = head.bytes + a.bytes; words = 1 + a.words })) (set (mid out words) 0 w)
  parsed_over {w} o = parsed_some t out (set (mid out words) 0 w) (record { bytes = head.bytes + a.bytes; words = 1 + a.words })
      (omega (arith, h.some_bytes)) first-within (λ n d.
      let s = first_side n d in
      let holds : HeadWord (Over w) h.thing = as_head h.thing o h.holds in
      let (χ, e, p, q) = over_side_lem (term_in n) w h.thing holds (drop head.bytes t) s.term (drop (head.bytes + a.bytes) t) s.same in
      (χ, headed t n head.value head.bytes h f.leaf ∙ e, record { put = rw p (put_first w (first-put n d)); room = omega (arith, s.worded.room, rest-room out (some_room out f.empty)) }))

  -- ── an operator ──
  module _ (two : head.value ≡ Pair) where
    paired : (n : ℕ) (d : length t ≤ suc n) → let s = first_side n d in
        term_in (suc n) t ≡ upon (operator_in (drop (head.bytes + a.bytes) t)) (λ op. upon (term_in n op.1) (λ ψ.
        keyword (ascii ")") (bin op.0 s.term ψ.0) ψ.1))
    paired n d =
        let holds : HeadWord Pair h.thing = as_head h.thing two h.holds in
        headed t n head.value head.bytes h f.leaf ∙ ap (λ (x : Grammar.Head). sides_in (term_in n) x (drop head.bytes t)) (is-pair h.thing holds)
        ∙ rw (first_side n d).same refl

    pub parsed_no_operator : OperatorRead (operator_in (from (head.bytes + a.bytes) t)) (from (head.bytes + a.bytes) t) None → Parsed t out None (mid out words)
    parsed_no_operator read =
        let u = from (head.bytes + a.bytes) t in
        let e = missing (λ k. k.bytes) (λ k. OperatorWord k.value) (operator_in u) u read in
        let q : operator_in (drop (head.bytes + a.bytes) t) ≡ none = ap operator_in (sym (from-drop (head.bytes + a.bytes) t)) ∙ e in
        parsed_none t out (mid out words) (λ n d. ap (fitting (length out)) (paired n d) ∙ rw q refl)

    -- ── the second side ──
    module _ (op : Token ℕ) (op_read : OperatorRead (operator_in (from (head.bytes + a.bytes) t)) (from (head.bytes + a.bytes) t) (Some op)) where
      -- where the second side begins, and the room for it
      abbrev place : ℕ
      place = head.bytes + a.bytes + op.bytes

      abbrev left : List ℕ
      left = from (1 + a.words) (mid out words)

      operator : Got (OperatorWord op.value) (operator_in (from (head.bytes + a.bytes) t)) t (head.bytes + a.bytes) place
      operator = got (λ k. k.bytes) (λ k. OperatorWord k.value) (operator_in (from (head.bytes + a.bytes) t)) t (head.bytes + a.bytes) op first-within op_read

      between : (n : ℕ) (d : length t ≤ suc n) → let s = first_side n d in
          term_in (suc n) t ≡ upon (term_in n (drop place t)) (λ ψ. keyword (ascii ")") (bin operator.thing s.term ψ.0) ψ.1)
      between n d = paired n d ∙ rw (ap operator_in (sym (from-drop (head.bytes + a.bytes) t)) ∙ operator.same) refl

      left-room : (n : ℕ) (d : length t ≤ suc n) → (1 + size (first_side n d).term) + length left ≡ length out
      left-room n d =
          let s = first_side n d in
          omega (arith, from-length (1 + a.words) (mid out words), mid_length, s.worded.put.count, encode-length s.term, first-room)

      pub parsed_no_second : {more : List ℕ} (new : List ℕ) → Parsed (from place t) left None more → Parsed t out None new
      parsed_no_second {more} new read = parsed_none t out new (λ n d.
          let s = first_side n d in
          let K : Term × List ℕ → Read Term = λ ψ. keyword (ascii ")") (bin operator.thing s.term ψ.0) ψ.1 in
          ap (fitting (length out)) (between n d)
          ∙ ap (λ (x : ℕ). fitting x (upon (term_in n (drop place t)) K)) (sym (left-room n d))
          ∙ large_still (1 + size s.term) (length left) (term_in n (drop place t)) K
          (λ ψ. finds_keyword (ascii ")") (bin operator.thing s.term ψ.0) ψ.1 (λ rest _. omega arith))
          (side_missing t left place more n (omega (arith, h.some_bytes)) read))

      module _ (b : Span) (more : List ℕ) (read : Parsed (from place t) left (Some b) more) where
        abbrev close : ℕ
        close = place + b.bytes

        -- the words of both stand in out
        abbrev end : List ℕ
        end = put_mid (1 + a.words) (length (mid out words) - (1 + a.words)) (mid out words) more

        second_side : (n : ℕ) → length t ≤ suc n → Side t left place b more n
        second_side n d = side_got t left place more n (omega (arith, h.some_bytes)) operator.within b read

        closing : (n : ℕ) (d : length t ≤ suc n) → term_in (suc n) t
            ≡ keyword (ascii ")") (bin operator.thing (first_side n d).term (second_side n d).term) (drop close t)
        closing n d = between n d ∙ rw (second_side n d).same refl

        both-put : (n : ℕ) (d : length t ≤ suc n)
            → Put (get_or out 0 0 ∷ (encode (first_side n d).term ++ encode (second_side n d).term)) out (1 + a.words + b.words) end
        both-put n d = put-behind (first-put n d) (second_side n d).worded.put

        both-room : (n : ℕ) (d : length t ≤ suc n) → 1 + (size (first_side n d).term + size (second_side n d).term) ≤ length out
        both-room n d = omega (arith, (second_side n d).worded.room, left-room n d)

        -- the sign behind them
        module _ {r : Bool} (test : r ≡ pointwise eqb (ascii ")") (take 1 (from close t))) where
          pub parsed_unclosed : r ≡ false → Parsed t out None end
          parsed_unclosed e = parsed_none t out end (λ n d.
              let q : behind (ascii ")") (drop close t) ≡ none = rw (← from-drop close t) (not-begun (ascii ")") (from close t) test e) in
              ap (fitting (length out)) (closing n d) ∙ rw q refl)

          pub parsed_pair : r ≡ true → 1 ≤ length (from close t)
              → Parsed t out (Some (record { bytes = close + 1; words = 1 + a.words + b.words })) (set end 0 op.value)
          parsed_pair e inside = parsed_some t out (set end 0 op.value) (record { bytes = close + 1; words = 1 + a.words + b.words })
              (omega arith) (omega (arith, inside, from-length close t)) (λ n d.
              let χ = bin operator.thing (first_side n d).term (second_side n d).term in
              let q : behind (ascii ")") (drop close t) ≡ some (drop 1 (drop close t)) = rw (← from-drop close t) (begun (ascii ")") (from close t) test e) in (
                χ,
                closing n d ∙ rw q (ap (λ (rest : List ℕ). some (χ, rest)) (drop-drop 1 close t)),
                record {
                  put = subst (λ (x : ℕ). Put (x ∷ (encode (first_side n d).term ++ encode (second_side n d).term)) out (1 + a.words + b.words) (set end 0 op.value))
                      operator.holds (put_first op.value (both-put n d));
                  room = both-room n d;
                },
              ))
