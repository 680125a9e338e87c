-- Right sides from the words, read from the last to the first: `end` has at each word the place behind its term.
use mathlib.Core.Path.{◌≡◌, refl, sym, ◌∙◌, ap}
use mathlib.Core.Logic.{◌⊎◌, inl, inr}
use mathlib.Core.Bool.{Bool, true, false, cond}
use mathlib.Core.List.{List, [], ◌∷◌, ◌++◌}
use Prim.Native.Nat.{ℕ, zero, suc, ◌+◌, ◌-◌, ◌≤◌, ◌<◌}
use native.Mathlib.Nat.{eq-or-lt_of_le}
use native.Mathlib.Numerals.{one-add, unary_clauses}
use native.Mathlib.Omega.{arith}
use lib.Dec.{eqb}
use lib.ListN.{length, get_or, take, drop, set, replicate, take-append-drop, length-drop, length-set}
use lib.Seq.{drop-cons, drop-nil, drop-drop, drop-set-lt, get_or-set_same, get_or-set_other, length-take-le, lt-length-set, take-add}
use Rattle.soda.specs.Terms.{Op, Term, bin, size}
use Rattle.soda.proofs.Terms.{size_pos}
use Rattle.policy.specs.Words.{kind, sides}
use Rattle.shape.specs.Shapes.{right_sides}
use Rattle.shape.specs.Private.{RightsOf}
use Rattle.policy.proofs.Grammar.{op_sides, Begins, begins1, begins2, begins3, begins4, begins5, begins_op, length_begins, drop_begins, begins_whole}

pub zeros : (n i : ℕ) → get_or {A = ℕ} (replicate n 0) i 0 ≡ 0
zeros zero i = refl
zeros (suc n) zero = refl
zeros (suc n) (suc i) = zeros n i

-- ── lists ──
drop-zeros : (n i : ℕ) → drop {A = ℕ} i (replicate n 0) ≡ replicate (n - i) 0
drop-zeros zero i = let e : 0 - i ≡ 0 = omega arith in rw e (drop-nil i)
drop-zeros (suc n) zero = simp unary_clauses
drop-zeros (suc n) (suc i) = simp unary_clauses (drop-zeros n i)

drop-set : (l : List ℕ) (k x : ℕ) → k < length l → drop k (set l k x) ≡ x ∷ drop (1 + k) l
drop-set l k x h = drop-cons (set l k x) k 0 (lt-length-set l k x h) ∙ rw (get_or-set_same l k x 0 h, drop-set-lt (suc k) l k x (omega arith), one-add)

set_le : (n : ℕ) (l : List ℕ) (i x : ℕ) → x ≤ n → ((j : ℕ) → get_or l j 0 ≤ n) → (j : ℕ) → get_or (set l i x) j 0 ≤ n
set_le n [] i x h p j = p j
set_le n (y ∷ l) zero x h p zero = h
set_le n (y ∷ l) zero x h p (suc j) = p (suc j)
set_le n (y ∷ l) (suc i) x h p zero = p 0
set_le n (y ∷ l) (suc i) x h p (suc j) = set_le n l i x h (λ m. p (suc m)) j

cond_le : (n : ℕ) (b : Bool) (x y : ℕ) → x ≤ n → y ≤ n → cond b x y ≤ n
cond_le n true x y h l = h
cond_le n false x y h l = l

-- ── the words from i on ──
-- what the lists have of a term at word i
pub record Sided (right end : List ℕ) (i : ℕ) (φ : Term) : Type 0 where
  pub behind : get_or end i 0 ≡ i + size φ
  pub rights : take (size φ) (drop i right) ≡ right_sides i φ

-- The words from i on are done. A place is small where no term stands too, so that it is in range as an index.
pub record Done (ws right end : List ℕ) (i : ℕ) : Type 0 where
  pub long : (length right ≡ 31) × (length end ≡ 32)
  pub small : (j : ℕ) → get_or end j 0 ≤ 31
  pub rest : drop (length ws) right ≡ replicate (31 - length ws) 0
  pub terms : (j : ℕ) {φ : Term} {vs : List ℕ} → i ≤ j → Begins (drop j ws) φ vs → Sided right end j φ

-- ── the loop ──
pub begin : (ws : List ℕ) → length ws ≤ 31 → Done ws (replicate 31 0) (replicate 32 0) (length ws)
begin ws h = record {
  long = (refl, refl);
  small = λ j. rw (zeros 32 j) (omega arith);
  rest = drop-zeros 31 (length ws);
  terms = λ j {φ} l b. absurd (omega (arith, length_begins b, length-drop j ws, size_pos φ));
}

-- one word more: the word k has n sides, r and e are entered for it
module _ (ws right end : List ℕ) (i k n r e : ℕ) (short : length ws ≤ 31) (inside : k < length ws) (down : i ≡ 1 + k)
    (D : Done ws right end i) (n-is : n ≡ sides (kind (get_or ws k 0)))
    (r-is : r ≡ cond (eqb n 2) (get_or end i 0) i) (e-is : e ≡ cond (eqb n 0) i (get_or end r 0)) where
  abbrev Here : Term → Type 0
  Here φ = Sided (set right k r) (set end k e) k φ

  put : (φ : Term) (m : ℕ) (l : List ℕ) → size φ ≡ 1 + m → e ≡ k + size φ → take m (drop (1 + k) right) ≡ l → right_sides k φ ≡ r ∷ l → Here φ
  put φ m l s p q t = record {
    behind = get_or-set_same end k e 0 (omega (arith, D.long.1)) ∙ p;
    rights = rw (s, drop-set right k r (omega (arith, D.long.0)), one-add m, q) (sym t);
  }

  leaf : (φ : Term) → n ≡ 0 → size φ ≡ 1 → right_sides k φ ≡ (1 + k) ∷ [] → Here φ
  leaf φ z s t =
      let p : r ≡ 1 + k = r-is ∙ rw z down in
      let q : e ≡ 1 + k = e-is ∙ rw z down in
      put φ 0 [] s (omega arith) refl (rw p t)

  one : (φ ψ : Term) → n ≡ 1 → Sided right end (1 + k) ψ → size φ ≡ 1 + size ψ → right_sides k φ ≡ (1 + k) ∷ right_sides (1 + k) ψ → Here φ
  one φ ψ z S s t =
      let p : r ≡ 1 + k = r-is ∙ rw z down in
      let q : e ≡ 1 + k + size ψ = e-is ∙ rw (z, p) S.behind in
      put φ (size ψ) (right_sides (1 + k) ψ) s (omega arith) S.rights (rw p t)

  two : (op : Op) (φ ψ : Term) → n ≡ 2 → Sided right end (1 + k) φ → Sided right end (1 + k + size φ) ψ → Here (bin op φ ψ)
  two op φ ψ z S T =
      let p : r ≡ 1 + k + size φ = r-is ∙ rw (z, down) S.behind in
      let q : e ≡ 1 + k + size φ + size ψ = e-is ∙ rw (z, p) T.behind in
      put (bin op φ ψ) (size φ + size ψ) (right_sides (1 + k) φ ++ right_sides (1 + k + size φ) ψ) refl (omega arith)
      (take-add (size φ) (size ψ) (drop (1 + k) right) ∙ rw (drop-drop (size φ) (1 + k) right, S.rights, T.rights)) (rw p)

  -- the word, and the sides behind it
  module _ {w : ℕ} {vs : List ℕ} (p : w ∷ vs ≡ drop k ws) where
    its_sides : {m : ℕ} → kind w ≡ m → n ≡ sides m
    its_sides q = let d = drop-cons ws k 0 inside in let f : get_or ws k 0 ≡ w = cc in n-is ∙ rw (f, q)

    next : vs ≡ drop (1 + k) ws
    next = let d = drop-cons ws k 0 inside in rw one-add (cc)

    first : {φ : Term} {us : List ℕ} → Begins vs φ us → Sided right end (1 + k) φ
    first b = D.terms (1 + k) (omega arith) (rw next at b)

    second : {φ ψ : Term} {us ts : List ℕ} → Begins vs φ us → Begins us ψ ts → Sided right end (1 + k + size φ) ψ
    second {φ} b c =
        D.terms (1 + k + size φ) (omega arith) (rw (← drop_begins b, next, drop-drop (size φ) (1 + k) ws) at c)

  here : {vs us : List ℕ} {φ : Term} → Begins vs φ us → vs ≡ drop k ws → Here φ
  here (begins1 q) p = leaf _ (its_sides p q) refl refl
  here (begins2 q) p = leaf _ (its_sides p q) refl refl
  here (begins3 q) p = leaf _ (its_sides p q) refl refl
  here (begins4 q b) p = one _ _ (its_sides p q) (first p b) refl refl
  here (begins5 q b) p = one _ _ (its_sides p q) (first p b) refl refl
  here (begins_op {op = op} q b c) p = two op _ _ (its_sides p q ∙ op_sides op) (first p b) (second p b c)

  pub step : Done ws (set right k r) (set end k e) k
  step = record {
    long = (length-set right k r ∙ D.long.0, length-set end k e ∙ D.long.1);
    small = set_le 31 end k e (rw e-is (cond_le 31 (eqb n 0) i (get_or end r 0) (omega arith) (D.small r))) D.small;
    rest = drop-set-lt (length ws) right k r inside ∙ D.rest;
    terms = λ j l b. at j b (eq-or-lt_of_le l);
  }
    where
      at : (j : ℕ) {φ : Term} {vs : List ℕ} → Begins (drop j ws) φ vs → (k ≡ j) ⊎ (k < j) → Sided (set right k r) (set end k e) j φ
      at j b (inl q) = rw (← q) (here (rw (← q) at b) refl)
      at j b (inr q) =
          let S = D.terms j (omega arith) b in
          record { behind = get_or-set_other end k j e 0 (λ z. omega arith) ∙ S.behind; rights = rw (drop-set-lt j right k r q) S.rights }

pub finished : (ws right end : List ℕ) → length ws ≤ 31 → Done ws right end 0 → RightsOf ws right
finished ws right end h D φ d =
    let b = begins_whole ws φ d in
    let S = D.terms 0 (omega arith) b in
    let n : length ws ≡ size φ = omega (arith, length_begins b) in
    let m : length (right_sides 0 φ) ≡ size φ = ap length (sym S.rights) ∙ length-take-le (size φ) right (omega (arith, D.long.0)) in
    sym (take-append-drop (size φ) right) ∙ rw (S.rights, m, ← n, D.rest)
