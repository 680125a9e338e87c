-- The grammar of policy words as a relation, and that reading a row of terms from the last word to the first finds the same.
use Rattle.std.proofs.Common.{◌≡◌, ℕ, zero, suc, ◌+◌, ◌<◌, false, cond, eqb, ltb, ◌⊎◌, List, [], ◌∷◌, length, drop, sym, refl, ◌∙◌, inl, inr, one-add, arith, drop-drop, eq-eqb, ne_eqb, le-leb}
use mathlib.Core.Option.{Option, some, none}
use borrow.Author.Tests.{lt-leb}
use Rattle.soda.specs.Terms.{Op, either, both, together, apart, Term, everyone, role, set, ¬ᵗ◌, ◌⁺, bin, unit_op, size}
use Rattle.soda.specs.Words.{op_kind}
use Rattle.policy.specs.Kinds.{TOGETHER}
use Rattle.policy.specs.Words.{Kind, bad, everyone_k, role_k, set_k, not_k, plus_k, op_k, kind, operand, sides, known, kind_of, head, tail, lift1, lift2, push, row, first, single, decode}
use Rattle.policy.specs.Accepted.{OpSides}

-- ── kinds ──
-- the kinds of words, and how many sides a term of each has
pub data Row : ℕ → ℕ → Type 0 where
  row1 : Row 1 0
  row2 : Row 2 0
  row3 : Row 3 0
  row4 : Row 4 1
  row5 : Row 5 1
  row_op : (op : Op) → Row (op_kind op) 2

-- a kind is one of them, with the sides that the rule gives it, or it is none
abbrev pub Known : ℕ → Type 0
Known k = Row k (sides k) ⊎ ((known k ≡ false) × (kind_of k ≡ bad))

pub past_nine : (k : ℕ) → 9 < k → known k ≡ false
past_nine k h = rw (le-leb 1 k (omega arith), lt-leb k 9 h)

pub row_of : (k : ℕ) → Known k
row_of zero = inr (refl, refl)
row_of (suc zero) = inl row1
row_of (suc (suc zero)) = inl row2
row_of (suc (suc (suc zero))) = inl row3
row_of (suc (suc (suc (suc zero)))) = inl row4
row_of (suc (suc (suc (suc (suc zero))))) = inl row5
row_of (suc (suc (suc (suc (suc (suc zero)))))) = inl (row_op either)
row_of (suc (suc (suc (suc (suc (suc (suc zero))))))) = inl (row_op both)
row_of (suc (suc (suc (suc (suc (suc (suc (suc zero)))))))) = inl (row_op together)
row_of (suc (suc (suc (suc (suc (suc (suc (suc (suc zero))))))))) = inl (row_op apart)
row_of (suc (suc (suc (suc (suc (suc (suc (suc (suc (suc k)))))))))) = inr (past_nine (suc (suc (suc (suc (suc (suc (suc (suc (suc (suc k)))))))))) (omega arith), refl)

pub op_sides : OpSides
op_sides either = refl
op_sides both = refl
op_sides together = refl
op_sides apart = refl

-- the operators of unit terms are the lower ones
pub unit_op_lem : (op : Op) → ltb (op_kind op) TOGETHER ≡ unit_op op
unit_op_lem either = refl
unit_op_lem both = refl
unit_op_lem together = refl
unit_op_lem apart = refl

pub push_op : (op : Op) (x : ℕ) (ts : List (Option Term)) → push (kind_of (op_kind op)) x ts ≡ lift2 op (head ts) (head (tail ts)) ∷ tail (tail ts)
push_op either x ts = refl
push_op both x ts = refl
push_op together x ts = refl
push_op apart x ts = refl

push_cons : (K : Kind) (x : ℕ) (ts : List (Option Term)) → push K x ts ≡ head (push K x ts) ∷ tail (push K x ts)
push_cons bad x ts = refl
push_cons everyone_k x ts = refl
push_cons role_k x ts = refl
push_cons set_k x ts = refl
push_cons not_k x ts = refl
push_cons plus_k x ts = refl
push_cons (op_k op) x ts = refl

-- ── the grammar ──
-- The words begin with a term: a word, then its sides. The last argument is the words behind it.
pub data Begins : List ℕ → Term → List ℕ → Type 0 where
  begins1 : {w : ℕ} {ws : List ℕ} → kind w ≡ 1 → Begins (w ∷ ws) everyone ws
  begins2 : {w : ℕ} {ws : List ℕ} → kind w ≡ 2 → Begins (w ∷ ws) (role (operand w)) ws
  begins3 : {w : ℕ} {ws : List ℕ} → kind w ≡ 3 → Begins (w ∷ ws) (set (operand w)) ws
  begins4 : {w : ℕ} {ws rest : List ℕ} {φ : Term} → kind w ≡ 4 → Begins ws φ rest → Begins (w ∷ ws) (¬ᵗ φ) rest
  begins5 : {w : ℕ} {ws rest : List ℕ} {φ : Term} → kind w ≡ 5 → Begins ws φ rest → Begins (w ∷ ws) (φ ⁺) rest
  begins_op : {w : ℕ} {ws vs rest : List ℕ} {op : Op} {φ ψ : Term} → kind w ≡ op_kind op → Begins ws φ vs → Begins vs ψ rest
      → Begins (w ∷ ws) (bin op φ ψ) rest

pub row_begins : {ws rest : List ℕ} {φ : Term} → Begins ws φ rest → row ws ≡ some φ ∷ row rest
row_begins (begins1 e) = rw e
row_begins (begins2 e) = rw e
row_begins (begins3 e) = rw e
row_begins (begins4 e b) = rw (e, row_begins b)
row_begins (begins5 e b) = rw (e, row_begins b)
row_begins (begins_op {op = op} e b c) = rw (e, push_op op, row_begins b, row_begins c)

pub length_begins : {ws rest : List ℕ} {φ : Term} → Begins ws φ rest → length ws ≡ size φ + length rest
length_begins (begins1 e) = omega arith
length_begins (begins2 e) = omega arith
length_begins (begins3 e) = omega arith
length_begins (begins4 e b) = omega (arith, length_begins b)
length_begins (begins5 e b) = omega (arith, length_begins b)
length_begins (begins_op e b c) = omega (arith, length_begins b, length_begins c)

pub drop_begins : {ws rest : List ℕ} {φ : Term} → Begins ws φ rest → drop (size φ) ws ≡ rest
drop_begins (begins1 e) = refl
drop_begins (begins2 e) = refl
drop_begins (begins3 e) = refl
drop_begins (begins4 e b) = rw one-add (drop_begins b)
drop_begins (begins5 e b) = rw one-add (drop_begins b)
drop_begins (begins_op {ws = ws} {φ = φ} {ψ = ψ} e b c) =
    rw (one-add, ← drop-drop (size ψ) (size φ) ws, drop_begins b) (drop_begins c)

-- ── the row of terms ──
-- The terms of a row stand one after the other in the words, up to the first that is missing.
abbrev Parsed : List ℕ → List (Option Term) → Type 0
Parsed ws [] = Unit {0}
Parsed ws (none ∷ ts) = Unit {0}
Parsed ws (some φ ∷ ts) = (rest : List ℕ) × Begins ws φ rest × Parsed rest ts

module _ (w : ℕ) (ws : List ℕ) where
  one : (f : Term → Term) → ((φ : Term) (rest : List ℕ) → Begins ws φ rest → Begins (w ∷ ws) (f φ) rest)
      → (ts : List (Option Term)) → Parsed ws ts → Parsed (w ∷ ws) (lift1 f (head ts) ∷ tail ts)
  one f b [] p = tt
  one f b (none ∷ ts) p = tt
  one f b (some φ ∷ ts) p = (p.0, b φ p.0 p.1, p.2)

  two : (op : Op) → kind w ≡ op_kind op → (ts : List (Option Term)) → Parsed ws ts
      → Parsed (w ∷ ws) (lift2 op (head ts) (head (tail ts)) ∷ tail (tail ts))
  two op e [] p = tt
  two op e (none ∷ ts) p = tt
  two op e (some φ ∷ []) p = tt
  two op e (some φ ∷ none ∷ ts) p = tt
  two op e (some φ ∷ some ψ ∷ ts) p = (p.2.0, begins_op e p.1 p.2.1, p.2.2)

  step : {k n : ℕ} → Row k n → kind w ≡ k → (ts : List (Option Term)) → Parsed ws ts → Parsed (w ∷ ws) (push (kind_of k) (operand w) ts)
  step row1 e ts p = (ws, begins1 e, p)
  step row2 e ts p = (ws, begins2 e, p)
  step row3 e ts p = (ws, begins3 e, p)
  step row4 e ts p = one ¬ᵗ◌ (λ φ rest b. begins4 e b) ts p
  step row5 e ts p = one ◌⁺ (λ φ rest b. begins5 e b) ts p
  step (row_op op) e ts p = rw push_op (two op e ts p)

parsed : (ws : List ℕ) → Parsed ws (row ws)
parsed [] = tt
parsed (w ∷ ws) = elim (row_of (kind w)) [
  | inl r ↦ step w ws r refl (row ws) (parsed ws)
  | inr r ↦ rw r.1 tt
]

pub no : {A : Type 0} {φ : Term} → ◌≡◌ {A = Option Term} none (some φ) → A
no e = absurd (let z : ◌≡◌ {A = ℕ} 0 1 = cc in omega arith)

pub begins : (ws : List ℕ) (φ : Term) → first ws ≡ some φ → Begins ws φ (drop (size φ) ws)
begins ws φ e = go (row ws) (parsed ws) e
  where
    go : (ts : List (Option Term)) → Parsed ws ts → head ts ≡ some φ → Begins ws φ (drop (size φ) ws)
    go [] p q = no q
    go (none ∷ ts) p q = no q
    go (some ψ ∷ ts) p q =
        let z : ψ ≡ φ = cc in
        rw (← z, drop_begins p.1) p.1

-- ── exactly one term ──
pub decode_missing : (ws : List ℕ) → first ws ≡ none → decode ws ≡ none
decode_missing ws e = go (row ws) e
  where
    go : (ts : List (Option Term)) → head ts ≡ none → single ts ≡ none
    go [] q = refl
    go (t ∷ []) q = q
    go (t ∷ u ∷ ts) q = refl

pub decode_whole : {ws : List ℕ} {φ : Term} → Begins ws φ [] → decode ws ≡ some φ
decode_whole b = rw (row_begins b)

pub decode-more : {ws vs : List ℕ} {w : ℕ} {φ : Term} → Begins ws φ (w ∷ vs) → decode ws ≡ none
decode-more {vs = vs} {w = w} b = rw (row_begins b, push_cons (kind_of (kind w)) (operand w) (row vs))

-- the first term is the one term when no word is left over
pub decode-first : (ws : List ℕ) (φ : Term) → first ws ≡ some φ → decode ws ≡ cond (eqb (size φ) (length ws)) (some φ) none
decode-first ws φ e = go (drop (size φ) ws) (begins ws φ e)
  where
    go : (rest : List ℕ) → Begins ws φ rest → decode ws ≡ cond (eqb (size φ) (length ws)) (some φ) none
    go [] b = decode_whole b ∙ rw (eq-eqb (size φ) (length ws) (omega (arith, length_begins b)))
    go (w ∷ vs) b = decode-more b ∙ rw (ne_eqb (size φ) (length ws) (λ q. omega (arith, length_begins b)))

pub begins_whole : (ws : List ℕ) (φ : Term) → decode ws ≡ some φ → Begins ws φ []
begins_whole ws φ e = go (drop (size φ) ws) (begins ws φ (is-first (row ws) e))
  where
    is-first : (ts : List (Option Term)) → single ts ≡ some φ → head ts ≡ some φ
    is-first [] q = q
    is-first (t ∷ []) q = q
    is-first (t ∷ u ∷ ts) q = no q

    go : (rest : List ℕ) → Begins ws φ rest → Begins ws φ []
    go [] b = b
    go (w ∷ vs) b = no (sym (decode-more b) ∙ e)
