-- The words of each kind, and the rows of the table that they are.
use mathlib.Core.Path.{◌≡◌, refl, sym, ◌∙◌, ap}
use mathlib.Core.Bool.{Bool, true, false, not, ◌&&◌, cond, true≢false}
use mathlib.Core.Logic.{inl, inr}
use mathlib.Core.List.{List, [], ◌∷◌, ◌++◌, map, map-append, append_assoc, append-nil}
use mathlib.Core.Option.{some}
use Prim.Native.Nat.{ℕ, ◌+◌, ◌-◌, ◌*◌, ◌%◌, ◌^◌, ◌≤◌, ◌<◌}
use native.Mathlib.Omega.{arith}
use lib.Bits.{bit_or, bit_and}
use lib.Dec.{eqb}
use Rattle.std.proofs.lemmas.Nat.{or_comm}
use lib.ListN.{length, get_or, take, length-map}
use lib.Seq.{drop-cons, length-take-le, take-add}
use borrow.Author.Tests.{ne_eqb}
use Rattle.soda.specs.Bits.{number}
use Rattle.soda.specs.Terms.{Op, either, both, together, apart, Term, everyone, role, set, ¬ᵗ◌, ◌⁺, bin, same_op, unit, subterms, marks}
use Rattle.soda.specs.Words.{op_kind}
use lib.Pow.{pow_mono}
use Rattle.std.proofs.Common.{lt_of_lt_of_le}
use Rattle.soda.proofs.Bits.{number_lt}
use Rattle.soda.proofs.Terms.{subterms-length}
use Rattle.soda.proofs.Words.{tag, op_high, same_kind}
use Rattle.policy.specs.Kinds.{PLUS, EITHER, BOTH, TOGETHER, APART}
use Rattle.policy.specs.Words.{Kind, bad, everyone_k, role_k, set_k, not_k, plus_k, op_k, kind, known, kind_of, decode}
use Rattle.shape.specs.Shapes.{is_plus, is_op}
use Rattle.shape.specs.Private.{of_kind, with_of, MasksOf}
use Rattle.policy.proofs.Masks.{number_append, joined}
use Rattle.policy.proofs.Layouts.{one_shl}
use Rattle.policy.proofs.Grammar.{Row, row1, row2, row3, row4, row5, row_op, row_of, Begins, begins1, begins2, begins3, begins4, begins5, begins_op, length_begins, begins_whole}
use Rattle.shape.specs.declared.Masks.{Masks}
use Rattle.shape.proofs.Parts.{without_is}

-- ── the loop ──
-- the number of a kind; 0, of which there is no word in a term, for one that is none
abbrev number_of : Kind → ℕ
number_of bad = 0
number_of everyone_k = 1
number_of role_k = 2
number_of set_k = 3
number_of not_k = 4
number_of plus_k = 5
number_of (op_k op) = op_kind op

its_number : {k n : ℕ} → Row k n → number_of (kind_of k) ≡ k
its_number row1 = refl
its_number row2 = refl
its_number row3 = refl
its_number row4 = refl
its_number row5 = refl
its_number (row_op either) = refl
its_number (row_op both) = refl
its_number (row_op together) = refl
its_number (row_op apart) = refl

-- whether a word is of the kind with number n
same_number : (n k : ℕ) → 1 ≤ n → known n ≡ true → eqb (number_of (kind_of k)) n ≡ eqb k n
same_number n k h t = elim (row_of k) [
  | inl r ↦ rw (its_number r)
  | inr r ↦ ap (λ (K : Kind). eqb (number_of K) n) r.1 ∙ ne_eqb 0 n (λ e. omega arith) ∙ sym (ne_eqb k n (λ e. true≢false (sym t ∙ ap known (sym e) ∙ r.0)))
]

-- word i, of kind K
module _ (ws : List ℕ) (i : ℕ) (short : length ws ≤ 31) (inside : i < length ws) (K : Kind) (K-is : K ≡ kind_of (kind (get_or ws i 0))) where
  -- with it one word more of the words of kind n
  module _ (n : ℕ) (p : 1 ≤ n) (t : known n ≡ true) where
    abbrev of : ℕ → Bool
    of w = eqb (kind w) n

    abbrev so_far : List Bool
    so_far = map of (take i ws)

    count : length so_far ≡ i
    count = length-map (take i ws) of ∙ length-take-le i ws (omega arith)

    grows : (b : Bool) → eqb (number_of K) n ≡ b → number (so_far ++ (b ∷ [])) ≡ of_kind n (take (i + 1) ws)
    grows b e =
        let q : take (i + 1) ws ≡ take i ws ++ (get_or ws i 0 ∷ []) = take-add i 1 ws ∙ rw (drop-cons ws i 0 inside) in
        let r : b ≡ of (get_or ws i 0) = sym e ∙ ap (λ (K : Kind). eqb (number_of K) n) K-is ∙ same_number n (kind (get_or ws i 0)) p t in
        ap (λ (b : Bool). number (so_far ++ (b ∷ []))) r ∙ sym (ap (λ (l : List ℕ). number (map of l)) q ∙ ap number (map-append of (take i ws) (get_or ws i 0 ∷ [])))

    entered : (m : ℕ) → m ≡ of_kind n (take i ws) → cond (eqb (number_of K) n) (bit_or m (2 ^ i)) m ≡ of_kind n (take (i + 1) ws)
    entered m e = go (eqb (number_of K) n) refl
      where
        go : (b : Bool) → eqb (number_of K) n ≡ b → cond b (bit_or m (2 ^ i)) m ≡ of_kind n (take (i + 1) ws)
        go true y =
            or_comm m (2 ^ i)
            ∙ ap (bit_or (2 ^ i)) e
            ∙ ap (λ (b : ℕ). bit_or b (number so_far)) (sym (one_shl i (omega arith)))
            ∙ ap (λ (x : ℕ). bit_or (1 * 2 ^ x % 2 ^ 32) (number so_far)) (sym count)
            ∙ joined so_far (true ∷ []) (omega (arith, count))
            ∙ grows true y
        go false z = let q : m ≡ number (so_far ++ (false ∷ [])) = omega (arith, e, number_append so_far (false ∷ [])) in q ∙ grows false z

  pub step : {m : Masks} → MasksOf (take i ws) m → MasksOf (take (i + 1) ws) (with_of m K (2 ^ i))
  step {m} M = rw (fields K m) (record {
    plus = entered PLUS (omega arith) refl m.plus M.plus;
    either = entered EITHER (omega arith) refl m.either M.either;
    both = entered BOTH (omega arith) refl m.both M.both;
    together = entered TOGETHER (omega arith) refl m.together M.together;
    apart = entered APART (omega arith) refl m.apart M.apart;
  })
    where
      fields : (K : Kind) (m : Masks) → with_of m K (2 ^ i) ≡ record {
        plus = cond (eqb (number_of K) PLUS) (bit_or m.plus (2 ^ i)) m.plus;
        either = cond (eqb (number_of K) EITHER) (bit_or m.either (2 ^ i)) m.either;
        both = cond (eqb (number_of K) BOTH) (bit_or m.both (2 ^ i)) m.both;
        together = cond (eqb (number_of K) TOGETHER) (bit_or m.together (2 ^ i)) m.together;
        apart = cond (eqb (number_of K) APART) (bit_or m.apart (2 ^ i)) m.apart;
      }
      fields bad m = refl
      fields everyone_k m = refl
      fields role_k m = refl
      fields set_k m = refl
      fields not_k m = refl
      fields plus_k m = refl
      fields (op_k either) m = refl
      fields (op_k both) m = refl
      fields (op_k together) m = refl
      fields (op_k apart) m = refl

-- ── the kinds of a term's words ──
module _ (f : ℕ → Bool) where
  kinds_begin : {ws rest : List ℕ} {φ : Term} → Begins ws φ rest
      → map (λ w. f (kind w)) ws ≡ map (λ ψ. f (tag ψ)) (subterms φ) ++ map (λ w. f (kind w)) rest
  kinds_begin (begins1 e) = rw e
  kinds_begin (begins2 e) = rw e
  kinds_begin (begins3 e) = rw e
  kinds_begin (begins4 e b) = rw (e, kinds_begin b)
  kinds_begin (begins5 e b) = rw (e, kinds_begin b)
  kinds_begin (begins_op {rest = rest} {op = op} {φ = φ} {ψ = ψ} e b c) =
      let g : Term → Bool = λ χ. f (tag χ) in
      rw (e, kinds_begin b, kinds_begin c)
      (ap (λ (l : List Bool). f (op_kind op) ∷ l)
      (sym (ap (λ (l : List Bool). l ++ map (λ w. f (kind w)) rest) (map-append g (subterms φ) (subterms ψ))
      ∙ append_assoc (map g (subterms φ)) (map g (subterms ψ)) (map (λ w. f (kind w)) rest))))

  pub kinds_are : (ws : List ℕ) (φ : Term) → decode ws ≡ some φ → number (map (λ w. f (kind w)) ws) ≡ marks (λ ψ. f (tag ψ)) φ
  kinds_are ws φ d = ap number (kinds_begin (begins_whole ws φ d) ∙ append-nil (map (λ ψ. f (tag ψ)) (subterms φ)))

-- ── the rows of the table ──
low : (k : ℕ) (op : Op) → k < 6 → eqb k (op_kind op) ≡ false
low k op h = ne_eqb k (op_kind op) (λ e. omega (arith, op_high op))

pick : (a b : Bool) → (a && not b) ≡ cond b false a
pick true true = refl
pick true false = refl
pick false true = refl
pick false false = refl

own_op : (op : Op) (φ : Term) → (eqb (tag φ) (op_kind op) && not (unit φ)) ≡ is_op op φ
own_op op everyone = rw (low 1 op (omega arith))
own_op op (role r) = rw (low 2 op (omega arith))
own_op op (set m) = rw (low 3 op (omega arith))
own_op op (¬ᵗ φ) = rw (low 4 op (omega arith))
own_op op (φ ⁺) = rw (low 5 op (omega arith))
own_op op (bin o φ ψ) = rw (same_kind op o) (pick (same_op op o) (unit (bin o φ ψ)))

own-plus : (φ : Term) → eqb (tag φ) 5 ≡ is_plus φ
own-plus everyone = refl
own-plus (role r) = refl
own-plus (set m) = refl
own-plus (¬ᵗ φ) = refl
own-plus (φ ⁺) = refl
own-plus (bin op φ ψ) = (ne_eqb (op_kind op) 5 (λ e. omega (arith, op_high op)))

module _ (ws : List ℕ) (φ : Term) (d : decode ws ≡ some φ) where
  pub plus-is : of_kind 5 ws ≡ marks is_plus φ
  plus-is = kinds_are (λ k. eqb k 5) ws φ d ∙ (λ i. marks (λ ψ. own-plus ψ i) φ)

  module _ (short : length ws ≤ 31) where
    mask_lt : (l : List Bool) → length l ≡ length ws → number l < 2 ^ 32
    mask_lt l e = lt_of_lt_of_le (number_lt l) (pow_mono (let h : length l ≤ 32 = omega arith in h))

    pub op_is : (op : Op) → bit_and (of_kind (op_kind op) ws) (2 ^ 32 - 1 - marks unit φ) ≡ marks (is_op op) φ
    op_is op =
        let e = kinds_are (λ k. eqb k (op_kind op)) ws φ d in
        ap (λ (m : ℕ). bit_and m (2 ^ 32 - 1 - marks unit φ)) e
        ∙ without_is (λ ψ. eqb (tag ψ) (op_kind op)) unit (subterms φ)
        (rw e at (mask_lt (map (λ w. eqb (kind w) (op_kind op)) ws) (length-map ws (λ w. eqb (kind w) (op_kind op)))))
        (mask_lt (map unit (subterms φ)) (omega (arith, length-map (subterms φ) unit, subterms-length φ, length_begins (begins_whole ws φ d))))
        ∙ (λ i. marks (λ ψ. own_op op ψ i) φ)
