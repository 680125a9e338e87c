-- One step of the merge: the smaller of two first operands is moved to the front, and the rest is merged behind it.
use mathlib.Core.Path.{◌≡◌, refl, sym, ap, ◌∙◌}
use mathlib.Core.Bool.{Bool, true, false}
use mathlib.Core.List.{List, [], ◌∷◌, ◌++◌, append-nil}
use Prim.Native.Nat.{ℕ, zero, suc, ◌+◌, ◌-◌, ◌≤◌, ◌<◌}
use native.Mathlib.Nat.{add-zero}
use native.Mathlib.Numerals.{one-add}
use native.Mathlib.Omega.{arith}
use lib.Dec.{eqb}
use lib.ListN.{length, get_or, take, drop, set, length-append, length-drop}
use lib.Seq.{drop-length, take_at, drop_at, drop-append_seam, drop-drop, drop-set-lt, get_or-drop, length-take-le, paste}
use mir.Val.{bool_byte}
use borrow.Rule.Slice.PartMut.{put_mid}
use borrow.Author.Tests.{eq-eqb, ne_eqb}
use Rattle.std.specs.Ordering.{is_le, is_some_and, nat_cmp}
use Rattle.std.specs.Cmp.Lexicographic.{slice_partial_cmp}
use Rattle.std.specs.Prelude.{Some}
use Rattle.std.proofs.lemmas.Bool.Decides.{nat_tests}
use Rattle.std.proofs.lemmas.Cmp.{same_from_slice_cmp_tested}
use Rattle.soda.proofs.Lists.{from-drop, from-length}
use Rattle.soda.specs.Lists.{from, merge}
use Rattle.soda.specs.Terms.{Term}
use Rattle.soda.specs.Words.{words_le, term_le}
use Rattle.normal.specs.Private.{Chain, span, lead, operand_of, Merging, Merged}
use Rattle.normal.proofs.Chains.{span-within, lead_most, operand-within, head, chain-long, goes_on, ends, chain_append, put, merge-left, merge-right}

-- ── lists ──
-- slices are ordered as the words of terms are
abbrev slices_le : List ℕ → List ℕ → Bool
slices_le x y = is_some_and is_le (slice_partial_cmp (λ p q. Some (nat_cmp p q)) x y)

is-words_le : (x y : List ℕ) (b : Bool) → b ≡ slices_le x y → b ≡ words_le x y
is-words_le = same_from_slice_cmp_tested nat_cmp is_le words_le refl (λ _ _. refl) (λ _ _. refl) (λ p q u v o h. grind (arith, nat_tests))

drop-both : (l : List ℕ) (i j m n : ℕ) → i + j ≡ m + n → drop j (drop i l) ≡ drop n (drop m l)
drop-both l i j m n e = drop-drop j i l ∙ ap (λ (k : ℕ). drop k l) e ∙ sym (drop-drop n m l)

take_own : (n : ℕ) (l : List ℕ) → take (length (take n l)) l ≡ take n l
take_own zero l = refl
take_own (suc n) [] = refl
take_own (suc n) (z ∷ l) = ap (λ (r : List ℕ). z ∷ r) (take_own n l)

merge_none : (l : List Term) → merge term_le l [] ≡ l
merge_none [] = refl
merge_none (φ ∷ l) = ap (λ (r : List Term). φ ∷ r) (merge_none l)

-- w written at the front
pub set_front : (w : ℕ) (out : List ℕ) → 0 < length out → set out 0 w ≡ w ∷ drop 1 out
set_front w [] h = absurd (omega arith)
set_front w (z ∷ out) h = refl

-- w, and n words behind it, written at the front
front : (w : ℕ) (out s : List ℕ) (n : ℕ) → 0 < length out → paste (set out 0 w) 1 s n ≡ w ∷ (take n s ++ drop (1 + n) out)
front w [] s n h = absurd (omega arith)
front w (z ∷ out) s n h = rw one-add

module _ (w : ℕ) (v r : List ℕ) where
  seam : length (w ∷ v) ≡ 1 + length v
  seam = omega arith

  -- what is behind them, k words there written over, and all of them
  pub behind : from (1 + length v) (w ∷ (v ++ r)) ≡ r
  behind = from-drop (1 + length v) (w ∷ (v ++ r)) ∙ drop_at (w ∷ v) r (1 + length v) seam

  pub written_over : (k : ℕ) (new : List ℕ) → put_mid (1 + length v) k (w ∷ (v ++ r)) new ≡ w ∷ (v ++ (new ++ drop k r))
  written_over k new = rw (take_at (w ∷ v) r (1 + length v) seam, drop_at (w ∷ v) r (1 + length v) seam)

  pub came_back : (new : List ℕ) → put_mid (1 + length v) (length (w ∷ (v ++ r)) - (1 + length v)) (w ∷ (v ++ r)) new ≡ w ∷ (v ++ new)
  came_back new =
      let e : length (w ∷ (v ++ r)) - (1 + length v) ≡ length r = omega (arith, length-append v r) in
      rw (e, written_over, drop-length r, append-nil)

-- ── the step ──
-- what stands in a record of two chains
unfoldable pub merging : (w : ℕ) (a out : List ℕ) (l r : List Term) (rest : List ℕ) → Chain w a l [] → Chain w (drop (1 + length a) out) r rest → Merging w a out
merging w a out l r rest A B = record {
  left = l;
  right = r;
  rest = rest;
  ahead = A;
  behind = B;
  some = chain-long A;
  gap = omega (arith, chain-long B, length-drop (1 + length a) out);
}

module _ (w : ℕ) (a out : List ℕ) where
  -- the chain in out, where its first operand begins, and the words from there on
  abbrev b : List ℕ
  b = drop (1 + length a) out

  abbrev k : ℕ
  k = 1 + length a + bool_byte (eqb (get_or out (1 + length a) 0) w)

  abbrev ys : List ℕ
  ys = from k (set out 0 w)

  is-lead : bool_byte (eqb (get_or out (1 + length a) 0) w) ≡ lead w b
  is-lead = rw (get_or-drop, add-zero)

  is_ys : drop k (set out 0 w) ≡ drop (lead w b) b
  is_ys =
      drop-set-lt k out 0 w (omega arith)
      ∙ sym (drop-drop (bool_byte (eqb (get_or out (1 + length a) 0) w)) (1 + length a) out)
      ∙ rw is-lead

  compared : (x : List ℕ) {r t : Bool} → r ≡ slices_le x ys → r ≡ t → words_le x (drop (lead w b) b) ≡ t
  compared x {r} e h = ap (words_le x) (sym (from-drop k (set out 0 w) ∙ is_ys)) ∙ sym (is-words_le x ys r e) ∙ h

  -- ── the first operand of a is the smaller ──
  module _ {x v : List ℕ} (ex : x ≡ operand_of w a) (ev : v ≡ x) where
    -- it is moved to the front
    abbrev left_moved : List ℕ
    left_moved = put_mid 1 (1 + length x - 1) (set out 0 w) v

    is-left_moved : Merging w a out → left_moved ≡ w ∷ (x ++ drop (1 + length x) out)
    is-left_moved m =
        let e : 1 + length x - 1 ≡ length x = omega arith in
        ap (λ (o : List ℕ). put_mid 1 (1 + length x - 1) o v) (set_front w out (omega (arith, m.gap)))
        ∙ written_over w [] (drop 1 out) (1 + length x - 1) v
        ∙ rw (ev, e, drop-drop (length x) 1 out)

    left-behind : Merging w a out → from (1 + length x) left_moved ≡ drop (1 + length x) out
    left-behind m = ap (from (1 + length x)) (is-left_moved m) ∙ behind w x (drop (1 + length x) out)

    pub left-shorter : Merging w a out → length (from (1 + length x) left_moved) < length out
    left-shorter m = rw (left-behind m) (omega (arith, m.gap, length-drop (1 + length x) out))

    left-more : get_or a 0 0 ≡ w → Merging w a out → 1 + length x ≤ length a
    left-more g m =
        let d : lead w a ≡ 1 = rw (eq-eqb (get_or a 0 0) w g) in
        rw ex (omega (arith, operand-within w a m.some))

    pub left_on : get_or a 0 0 ≡ w → Merging w a out → Merging w (from (1 + length x) a) (from (1 + length x) left_moved)
    left_on g m =
        let d : lead w a ≡ 1 = rw (eq-eqb (get_or a 0 0) w g) in
        merging w (from (1 + length x) a) (from (1 + length x) left_moved) (head m.ahead).others m.right m.rest (rw from-drop (goes_on m.ahead ex d))
        (rw (
          left-behind m,
          from-length (1 + length x) a,
          drop-both out (1 + length x) (1 + (length a - (1 + length x))) 0 (1 + length a) (omega (arith, left-more g m)),
        ) m.behind)

    module _ {r : Bool} (e : r ≡ slices_le x ys) (h : r ≡ true) where
      pub left_again : (g : get_or a 0 0 ≡ w) {new : List ℕ} → Merged w (from (1 + length x) a) (from (1 + length x) left_moved) new
          → Merged w a out (put_mid (1 + length x) (length left_moved - (1 + length x)) left_moved new)
      unfolding left_on merging
      left_again g f m =
          rw (is-left_moved m, came_back, merge-left m.ahead m.behind ex (compared x e h)) (put (head m.ahead) ex (f (left_on g m)))

      pub left_last : (get_or a 0 0 ≡ w → ⊥) → Merged w a out left_moved
      left_last g m =
          let d = ends m.ahead ex (rw (ne_eqb (get_or a 0 0) w g)) in
          let z = ap length (d.0 ∙ append-nil x) in
          rw (is-left_moved m, merge-left m.ahead m.behind ex (compared x e h), d.1) (put (head m.ahead) ex (rw (sym z) m.behind))

  -- ── the other first operand, of n words, is the smaller ──
  abbrev y : List ℕ
  y = operand_of w b

  module _ {n : ℕ} (en : n ≡ span 1 ys) {l : List ℕ} (el : l ≡ paste (set out 0 w) 1 (drop k (set out 0 w)) (k + n - k)) where
    y_long : n ≡ length y
    y_long =
        let v = drop (lead w b) b in
        en ∙ ap (span 1) (from-drop k (set out 0 w) ∙ is_ys) ∙ sym (length-take-le (span 1 v) v (span-within 1 v))

    right_moved : Merging w a out → l ≡ w ∷ (y ++ drop (1 + length y) out)
    right_moved m =
        let v = drop (lead w b) b in
        let e : k + n - k ≡ n = omega arith in
        el
        ∙ front w out (drop k (set out 0 w)) (k + n - k) (omega (arith, m.gap))
        ∙ rw (e, is_ys, y_long, take_own (span 1 v) v)

    pub right_on : 1 + length a < k → Merging w a out → Merging w a (from (1 + n) l)
    right_on g m =
        let d : lead w b ≡ 1 = omega (arith, is-lead, lead_most w b) in
        let r : from (1 + n) l ≡ drop (1 + length y) out = rw (right_moved m, y_long) (behind w y (drop (1 + length y) out)) in
        merging w a (from (1 + n) l) m.left (head m.behind).others m.rest m.ahead
        (rw (r, drop-both out (1 + length y) (1 + length a) (1 + length a) (1 + length y) (omega arith)) (goes_on m.behind refl d))

    module _ {x : List ℕ} (ex : x ≡ operand_of w a) {r : Bool} (e : r ≡ slices_le x ys) (h : r ≡ false) where
      pub right_again : (g : 1 + length a < k) {new : List ℕ} → Merged w a (from (1 + n) l) new → Merged w a out (put_mid (1 + n) (length l - (1 + n)) l new)
      unfolding right_on merging
      right_again g f m =
          rw (right_moved m, y_long, came_back, merge-right m.ahead m.behind ex (compared x e h)) (put (head m.behind) refl (f (right_on g m)))

      pub right_last : k ≤ 1 + length a → {v : List ℕ} → v ≡ a → Merged w a out (put_mid (1 + n) (1 + n + length a - (1 + n)) l v)
      right_last g {v} ev m =
          let d = ends m.behind refl (omega (arith, is-lead)) in
          let j : 1 + n + length a - (1 + n) ≡ length a = omega arith in
          let z : drop (length a) (drop (1 + length y) out) ≡ m.rest =
          drop-both out (1 + length y) (length a) (1 + length a) (length y) (omega arith)
          ∙ ap (λ (r : List ℕ). drop (length y) r) d.0
          ∙ drop-append_seam y m.rest in
          rw (ev, j, right_moved m, y_long, written_over, z, merge-right m.ahead m.behind ex (compared x e h), d.1, merge_none)
          (put (head m.behind) refl (chain_append m.ahead m.rest))
