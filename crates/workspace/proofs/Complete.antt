-- A row completed from the last word to the first: a word's sides stand behind it, so that no later step changes them.
use mathlib.Core.Path.{◌≡◌, refl, sym, ap, ap₂, ◌∙◌, subst}
use mathlib.Core.Bool.{Bool, true, false, So, ◌&&◌, ◌||◌, true≢false, and-true, and-false, or-false}
use mathlib.Core.List.{List, [], ◌∷◌, ◌++◌}
use mathlib.Core.Logic.{◌⊎◌, inl, inr}
use Prim.Native.Nat.{ℕ, suc, ◌+◌, ◌-◌, ◌*◌, ◌/◌, ◌%◌, ◌^◌, ◌≤◌, ◌<◌}
use native.Mathlib.Nat.{eq-or-lt_of_le}
use native.Mathlib.Omega.{arith}
use borrow.Author.Tests.{eq-eqb, ne_eqb}
use lib.Bits.{bit_and, bit_or}
use lib.ListN.{length, get_or, set, take, length-set, length-append}
use lib.Seq.{get_or-set_same, get_or-set_other, get_or-take, get_or-append-add, take-length, take-append_seam, take-take}
use Rattle.soda.specs.Bits.{bit}
use Rattle.soda.proofs.Bools.{not_so, or_left, or_right, and-join}
use Rattle.soda.proofs.Bits.{bit_of_zero}
use Rattle.rows.specs.Rows.{place}
use Rattle.rows.proofs.Digits.{bit-and, bit-or, bit_shr, bit_word}
use Rattle.workspace.specs.Private.{Ascending, Listing, no_words, skips, lists, Operators, by_sides, Finished}

-- one word done: word i by its sides, the right one at k, and nothing else changes
pub record Placed (either both row right i k row' right' : ℕ) : Type 0 where
  pub here : (e : Bool) → bit (place e i) row' ≡ (bit (place e i) row || by_sides e row either both i k)
  pub other : (e : Bool) (j : ℕ) → j < 32 → (j ≡ i → ⊥) → bit (place e j) row' ≡ bit (place e j) row
  pub right_here : (e : Bool) → bit (place e i) right ≡ false → So (bit (place true i) either) → bit (place e i) right' ≡ bit (place e k) row
  pub right_other : (e : Bool) (j : ℕ) → j < 32 → (j ≡ i → ⊥) → bit (place e j) right' ≡ bit (place e j) right

module _ (either both row right i word : ℕ) (h : i < 31) (is : word ≡ 4294967297 * 2 ^ i) where
  at_word : (e : Bool) → bit (place e i) word ≡ true
  at_word e = ap (bit (place e i)) is ∙ bit_word e i i (omega arith) (omega arith) ∙ eq-eqb i i refl

  off_word : (e : Bool) (j : ℕ) → j < 32 → (j ≡ i → ⊥) → bit (place e j) word ≡ false
  off_word e j b n = ap (bit (place e j)) is ∙ bit_word e j i b (omega arith) ∙ ne_eqb j i n

  -- a word that is no operator
  pub skipped : (k : ℕ) → bit_and (bit_or either both) word ≡ 0 → Placed either both row right i k row right
  skipped k z = record {
    here = λ e. sym (ap₂ (λ x y. bit (place e i) row || ((x && (bit (place e (1 + i)) row || bit (place e k) row)) || (y && (bit (place e (1 + i)) row && bit (place e k) row)))) (no_either e) (no_both e)
        ∙ or-false (bit (place e i) row));
    other = λ e j b n. refl;
    right_here = λ e c o. absurd (true≢false (sym o ∙ no_either true));
    right_other = λ e j b n. refl;
  }
    where
      none : (e : Bool) → So (bit (place e i) (bit_or either both)) → ⊥
      none e o = true≢false (sym (and-join (bit (place e i) (bit_or either both)) (bit (place e i) word) o (at_word e))
          ∙ sym (bit-and (place e i) (bit_or either both) word) ∙ ap (bit (place e i)) z ∙ bit_of_zero (place e i))

      no_either : (e : Bool) → bit (place e i) either ≡ false
      no_either e = not_so (bit (place e i) either) (λ o. none e (bit-or (place e i) either both ∙ or_left (bit (place e i) either) (bit (place e i) both) o))

      no_both : (e : Bool) → bit (place e i) both ≡ false
      no_both e = not_so (bit (place e i) both) (λ o. none e (bit-or (place e i) either both ∙ or_right (bit (place e i) either) (bit (place e i) both) o))

  -- an operator
  module _ (k : ℕ) (l : i < k) where
    abbrev row_now : ℕ
    row_now =
        bit_or row (bit_and word (bit_or (bit_and either (bit_or (row / 2 ^ 1) (row / 2 ^ (k - i)))) (bit_and both (bit_and (row / 2 ^ 1) (row / 2 ^ (k - i))))))

    abbrev right_now : ℕ
    right_now = bit_or right (bit_and (row / 2 ^ (k - i)) word)

    row-bit : (q x y : ℕ) (b : Bool) → 1 + q ≡ x → k - i + q ≡ y → bit q word ≡ b
        → bit q row_now ≡ (bit q row || (b && ((bit q either && (bit x row || bit y row)) || (bit q both && (bit x row && bit y row)))))
    row-bit q x y b u v w = simp (bit-or, bit-and, bit_shr, u, v, w)

    right-bit : (q y : ℕ) (b : Bool) → k - i + q ≡ y → bit q word ≡ b → bit q right_now ≡ (bit q right || (bit y row && b))
    right-bit q y b v w = simp (bit-or, bit-and, bit_shr, v, w)

    pub placed : Placed either both row right i k row_now right_now
    placed = record {
      here = λ e. row-bit (place e i) (place e (1 + i)) (place e k) true (omega arith) (omega arith) (at_word e);
      other = λ e j b n. row-bit (place e j) (1 + place e j) (k - i + place e j) false refl refl (off_word e j b n) ∙ or-false (bit (place e j) row);
      right_here = λ e c o. right-bit (place e i) (place e k) true (omega arith) (at_word e) ∙ rw c (and-true (bit (place e k) row));
      right_other = λ e j b n. right-bit (place e j) (k - i + place e j) false refl (off_word e j b n) ∙ simp (and-false, or-false);
    }

-- ── the loop ──
-- the words from i on are done
pub record Done (base either both : ℕ) (places : List ℕ) (row right i : ℕ) : Type 0 where
  pub bound : i ≤ length places
  pub low : (e : Bool) (j : ℕ) → j < i → bit (place e j) row ≡ bit (place e j) base
  pub rule : (e : Bool) (j : ℕ) → i ≤ j → j < length places → bit (place e j) row ≡ (bit (place e j) base || by_sides e row either both j (get_or places j 0))
  pub past : (e : Bool) (j : ℕ) → length places ≤ j → j < 32 → bit (place e j) row ≡ bit (place e j) base
  pub clear : (e : Bool) (j : ℕ) → j < i → bit (place e j) right ≡ false
  pub sided : (e : Bool) (j : ℕ) → i ≤ j → j < length places → So (bit (place true j) either) → bit (place e j) right ≡ bit (place e (get_or places j 0)) row

module _ (base either both : ℕ) (places : List ℕ) where
  pub begin : Done base either both places base 0 (length places)
  begin = record {
    bound = omega arith;
    low = λ e j l. refl;
    rule = λ e j l k. absurd (omega arith);
    past = λ e j l k. refl;
    clear = λ e j l. bit_of_zero (place e j);
    sided = λ e j l k. absurd (omega arith);
  }

  pub finished : (row right i : ℕ) → i ≤ 0 → Done base either both places row right i → Finished base either both places row right
  finished row right i h d = record {
    rule = λ e j l. d.rule e j (omega arith) l;
    past = d.past;
    sided = λ e j l. d.sided e j (omega arith) l;
  }

  pub step : (row right n row' right' : ℕ) → Ascending places → 0 < n → Done base either both places row right n
      → Placed either both row right (n - 1) (get_or places (n - 1) 0) row' right' → Done base either both places row' right' (n - 1)
  step row right n row' right' asc pos d p = record {
    bound = omega (arith, d.bound);
    low = λ e j l. p.other e j (omega (arith, d.bound, asc.short)) (λ q. omega arith) ∙ d.low e j (omega arith);
    rule = λ e j l k. rule e j k (eq-or-lt_of_le l);
    past = λ e j l k. p.other e j k (λ q. omega (arith, d.bound)) ∙ d.past e j l k;
    clear = λ e j l. p.right_other e j (omega (arith, d.bound, asc.short)) (λ q. omega arith) ∙ d.clear e j (omega arith);
    sided = λ e j l k. sided e j k (eq-or-lt_of_le l);
  }
    where
      i : ℕ
      i = n - 1

      -- the sides of a word that is done stand behind i
      left-kept : (e : Bool) (j : ℕ) → i ≤ j → j < length places → bit (place e (1 + j)) row' ≡ bit (place e (1 + j)) row
      left-kept e j l k = p.other e (1 + j) (omega (arith, asc.short)) (λ q. omega arith)

      right_kept : (e : Bool) (j : ℕ) → i ≤ j → j < length places → bit (place e (get_or places j 0)) row' ≡ bit (place e (get_or places j 0)) row
      right_kept e j l k = p.other e (get_or places j 0) (asc.inside j k) (λ q. omega (arith, asc.behind j k))

      kept : (e : Bool) (j : ℕ) → i ≤ j → j < length places → by_sides e row either both j (get_or places j 0) ≡ by_sides e row' either both j (get_or places j 0)
      kept e j l k = sym (ap₂ (λ x y. (bit (place e j) either && (x || y)) || (bit (place e j) both && (x && y))) (left-kept e j l k) (right_kept e j l k))

      rule : (e : Bool) (j : ℕ) → j < length places → (i ≡ j) ⊎ (i < j) → bit (place e j) row' ≡ (bit (place e j) base || by_sides e row' either both j (get_or places j 0))
      rule e j k (inl q) =
          subst (λ m. bit (place e m) row' ≡ (bit (place e m) base || by_sides e row' either both m (get_or places m 0))) q
          (p.here e ∙ ap₂ ◌||◌ (d.low e i (omega arith)) (kept e i (omega arith) (omega arith)))
      rule e j k (inr l) =
          p.other e j (omega (arith, asc.short)) (λ q. omega arith) ∙ d.rule e j (omega arith) k ∙ ap (λ x. bit (place e j) base || x) (kept e j (omega arith) k)

      sided : (e : Bool) (j : ℕ) → j < length places → (i ≡ j) ⊎ (i < j) → So (bit (place true j) either) → bit (place e j) right' ≡ bit (place e (get_or places j 0)) row'
      sided e j k (inl q) o =
          subst (λ m. bit (place e m) right' ≡ bit (place e (get_or places m 0)) row') q
          (p.right_here e (d.clear e i (omega arith)) (subst (λ m. So (bit (place true m) either)) (sym q) o) ∙ sym (right_kept e i (omega arith) (omega arith)))
      sided e j k (inr l) o =
          p.right_other e j (omega (arith, asc.short)) (λ q. omega arith) ∙ d.sided e j (omega arith) k o ∙ sym (right_kept e j (omega arith) k)

-- ── the operators ──
-- the words before `at` are to be done, and the first n operators are those among them
pub record Walked (base either both : ℕ) (places ops : List ℕ) (row right n : ℕ) : Type 0 where
  pub at : ℕ
  pub before : Listing either both places ops n at
  pub done : Done base either both places row right at

pub walk_begin : {base either both : ℕ} {places ops : List ℕ} {n : ℕ} → Listing either both places ops n (length places) → Walked base either both places ops base 0 n
walk_begin {base} {either} {both} {places} l = record { at = length places; before = l; done = begin base either both places }

module _ (base either both : ℕ) (places ops : List ℕ) (asc : Ascending places) where
  one_word : (row right w row' right' : ℕ) → Done base either both places row right (suc w) → Placed either both row right w (get_or places w 0) row' right'
      → Done base either both places row' right' w
  one_word row right w row' right' d p =
      let z : w ≡ suc w - 1 = omega arith in
      subst (Done base either both places row' right') (sym z)
      (step base either both places row right (suc w) row' right' asc (omega arith) d (subst (λ k. Placed either both row right k (get_or places k 0) row' right') z p))

  -- a word that is no operator
  pass : (row right w : ℕ) → bit_and (bit_or either both) (4294967297 * 2 ^ w) ≡ 0 → Done base either both places row right (suc w) → Done base either both places row right w
  pass row right w z d =
      one_word row right w row right d (skipped either both row right w (4294967297 * 2 ^ w) (omega (arith, d.bound, asc.short)) refl (get_or places w 0) z)

  -- the last of the operators that are left: the words behind it are done
  record Last (row right n : ℕ) : Type 0 where
    pub at : ℕ
    pub before : Listing either both places ops n at
    pub is : get_or ops n 0 ≡ at + 32 * (get_or places at 0 - at)
    pub done : Done base either both places row right (suc at)

  last : (row right n m w : ℕ) → m ≡ suc n → Listing either both places ops m w → Done base either both places row right w → Last row right n
  last row right n m w e no_words d = absurd (omega arith)
  last row right n m w e (skips k v l z) d = last row right n k v e l (pass row right v z d)
  last row right n m w e (lists k v l q) d =
      let i : k ≡ n = omega arith in
      record { at = v; before = subst (λ j. Listing either both places ops j v) i l; is = subst (λ j. get_or ops j 0 ≡ v + 32 * (get_or places v 0 - v)) i q; done = d }

  to_first : (row right m w : ℕ) → m ≡ 0 → Listing either both places ops m w → Done base either both places row right w → Done base either both places row right 0
  to_first row right m w e no_words d = d
  to_first row right m w e (skips k v l z) d = to_first row right k v e l (pass row right v z d)
  to_first row right m w e (lists k v l q) d = absurd (omega arith)

  pub walk_end : (row right n : ℕ) → n ≤ 0 → Walked base either both places ops row right n → Finished base either both places row right
  walk_end row right n h g = finished base either both places row right 0 (omega arith) (to_first row right n g.at (omega arith) g.before g.done)

  pub walk_step : (row right n word d : ℕ) → 0 < n → word ≡ 4294967297 * 2 ^ (get_or ops (n - 1) 0 % 32) → d ≡ get_or ops (n - 1) 0 / 32
      → Walked base either both places ops row right n
      → Walked base either both places ops
      (bit_or row (bit_and word (bit_or (bit_and either (bit_or (row / 2 ^ 1) (row / 2 ^ d))) (bit_and both (bit_and (row / 2 ^ 1) (row / 2 ^ d))))))
      (bit_or right (bit_and (row / 2 ^ d) word)) (n - 1)
  walk_step row right n word d h is far g =
      let m : n ≡ suc (n - 1) = omega arith in
      let o = last row right (n - 1) n g.at m g.before g.done in
      let w : ℕ = o.at in
      let k : ℕ = get_or places w 0 in
      let b : w < length places = omega (arith, o.done.bound) in
      let behind = asc.behind w b in
      let inside = asc.inside w b in
      let here : get_or ops (n - 1) 0 % 32 ≡ w = omega (arith, o.is, behind, inside) in
      let e : k - w ≡ d = omega (arith, o.is, behind, inside, far) in
      subst
      (λ x. Walked base either both places ops
      (bit_or row (bit_and word (bit_or (bit_and either (bit_or (row / 2 ^ 1) (row / 2 ^ x))) (bit_and both (bit_and (row / 2 ^ 1) (row / 2 ^ x))))))
      (bit_or right (bit_and (row / 2 ^ x) word)) (n - 1))
      e
      (record {
        at = w;
        before = o.before;
        done = one_word row right w _ _ o.done (placed either both row right w word (omega (arith, b, asc.short)) (is ∙ ap (λ j. 4294967297 * 2 ^ j) here) k behind);
      })

-- lists that agree up to n list the same operators
pub listing-same : {either both : ℕ} {places : List ℕ} (ops ops' : List ℕ) (n w : ℕ) → ((j : ℕ) → j < n → get_or ops' j 0 ≡ get_or ops j 0)
    → Listing either both places ops n w → Listing either both places ops' n w
listing-same ops ops' n w f no_words = no_words
listing-same ops ops' n w f (skips k v l z) = skips k v (listing-same ops ops' k v f l) z
listing-same ops ops' n w f (lists k v l q) = lists k v (listing-same ops ops' k v (λ j b. f j (omega arith)) l) (f k (omega arith) ∙ q)

-- ── the listing ──
-- the operators among the first i words are the first n of `ops`
pub record Listed (either both : ℕ) (places start ops : List ℕ) (n i : ℕ) : Type 0 where
  pub few : n ≤ i
  pub bound : i ≤ length places
  pub lengths : length ops ≡ length start
  pub listing : Listing either both places ops n i
  pub coded : (j : ℕ) → j < n → get_or ops j 0 < 1024

module _ {either both : ℕ} {places start : List ℕ} where
  pub list_begin : Listed either both places start start 0 0
  list_begin = record { few = omega arith; bound = omega arith; lengths = refl; listing = no_words; coded = λ j h. absurd (omega arith) }

  pub list_skip : {ops : List ℕ} {n i word : ℕ} → i < length places → word ≡ 4294967297 * 2 ^ i → bit_and (bit_or either both) word ≡ 0
      → Listed either both places start ops n i → Listed either both places start ops n (i + 1)
  list_skip {ops} {n} {i} h w z g = let s : suc i ≡ i + 1 = omega arith in record {
    few = omega (arith, g.few);
    bound = omega arith;
    lengths = g.lengths;
    listing = subst (Listing either both places ops n) s (skips n i g.listing (ap (bit_and (bit_or either both)) (sym w) ∙ z));
    coded = g.coded;
  }

  pub list_take : {ops : List ℕ} {n i : ℕ} → Ascending places → 31 ≤ length start → i < length places → Listed either both places start ops n i
      → Listed either both places start (set ops n (i + 32 * (get_or places i 0 - i))) (n + 1) (i + 1)
  list_take {ops} {n} {i} asc long h g = let s : suc i ≡ i + 1 = omega arith in let m : suc n ≡ n + 1 = omega arith in record {
    few = omega (arith, g.few);
    bound = omega arith;
    lengths = length-set ops n code ∙ g.lengths;
    listing = subst (λ k. Listing either both places after k (i + 1)) m (subst (Listing either both places after (suc n)) s
        (lists n i (listing-same ops after n i (λ j b. get_or-set_other ops n j code 0 (λ q. omega arith)) g.listing) here));
    coded = λ j b. by j (eq-or-lt_of_le (le j b));
  }
    where
      code : ℕ
      code = i + 32 * (get_or places i 0 - i)

      after : List ℕ
      after = set ops n code

      here : get_or after n 0 ≡ code
      here = get_or-set_same ops n code 0 (omega (arith, g.few, g.lengths, asc.short))

      le : (j : ℕ) → j < n + 1 → j ≤ n
      le j b = omega arith

      small : code < 1024
      small = omega (arith, asc.inside i h, asc.short)

      by : (j : ℕ) → (j ≡ n) ⊎ (j < n) → get_or after j 0 < 1024
      by j (inl q) = subst (λ x. x < 1024) (sym (ap (λ k. get_or after k 0) q ∙ here)) small
      by j (inr b) = subst (λ x. x < 1024) (sym (get_or-set_other ops n j code 0 (λ q. omega arith))) (g.coded j b)

  pub list_end : {ops : List ℕ} {n i : ℕ} → Ascending places → length places ≤ i → Listed either both places start ops n i → Operators either both places ops n
  list_end {ops} {n} {i} asc h g = let e : i ≡ length places = omega (arith, g.bound) in record {
    bound = omega (arith, g.few, g.bound, asc.short);
    listing = subst (Listing either both places ops n) e g.listing;
    coded = g.coded;
  }

-- ── the operators from the last to the first ──
-- those that are left stand first
pub record Left (ops rest : List ℕ) : Type 0 where
  pub bound : length rest ≤ length ops
  pub first : rest ≡ take (length rest) ops

pub left_all : (ops rest : List ℕ) → rest ≡ ops → Left ops rest
left_all ops rest e = subst (Left ops) (sym e) (record { bound = omega arith; first = sym (take-length ops) })

-- the last of them, and the others
pub record LastOf (ops rest rest' : List ℕ) (x : ℕ) : Type 0 where
  pub some : 0 < length rest
  pub less : length rest - 1 ≡ length rest'
  pub is : x ≡ get_or ops (length rest - 1) 0
  pub left : Left ops rest'

pub last_left : (ops rest rest' : List ℕ) (x : ℕ) → Left ops rest → rest ≡ rest' ++ (x ∷ []) → LastOf ops rest rest' x
last_left ops rest rest' x l e = record {
  some = omega (arith, n);
  less = omega (arith, n);
  is = sym (ap (λ q. get_or q (length rest - 1) 0) (sym l.first ∙ e) ∙ here) ∙ get_or-take (length rest) ops (length rest - 1) 0 (omega (arith, n));
  left = record {
    bound = omega (arith, n, l.bound);
    first = sym (take-append_seam rest' (x ∷ [])) ∙ ap (take (length rest')) (sym e ∙ l.first) ∙ take-take (length rest') (length rest) ops (omega (arith, n));
  };
}
  where
    n : length rest ≡ length rest' + 1
    n = ap length e ∙ length-append rest' (x ∷ [])

    here : get_or (rest' ++ (x ∷ [])) (length rest - 1) 0 ≡ x
    here = let z : length rest - 1 ≡ length rest' + 0 = omega (arith, n) in ap (λ i. get_or (rest' ++ (x ∷ [])) i 0) z ∙ get_or-append-add rest' (x ∷ []) 0 0
