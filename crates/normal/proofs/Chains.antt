-- A normal form's words are a chain of any operator, which leans right; and how the code takes a chain apart.
use mathlib.Core.Path.{◌≡◌, refl, sym, ap, ◌∙◌, subst}
use mathlib.Core.Bool.{true, false, So, true≢false}
use mathlib.Core.List.{List, [], ◌∷◌, ◌++◌, append_assoc, append-nil}
use Prim.Native.Nat.{ℕ, zero, suc, ◌+◌, ◌≤◌, ◌<◌, ◌^◌}
use native.Mathlib.Nat.{add-zero}
use native.Mathlib.Numerals.{add-one, add-two, one-add}
use native.Mathlib.Omega.{arith}
use lib.Dec.{eqb}
use lib.ListN.{length, get_or, take, drop, length-append, length-take, length-drop, get_or-append}
use lib.Seq.{take_at, drop-append_seam}
use borrow.Author.Tests.{eq-eqb, eqb-false, ne_eqb, le-ltb}
use Rattle.soda.specs.Lists.{merge}
use Rattle.soda.specs.Terms.{Op, Term, everyone, role, set, ¬ᵗ◌, ◌⁺, bin, same_op, size}
use Rattle.soda.specs.Words.{op_kind, op_word, encode, fits, words_le, term_le}
use Rattle.soda.specs.Normal.{operands, chain, normal_form}
use Rattle.soda.proofs.Bools.{by_test, and_split, so_lt}
use Rattle.soda.proofs.Sorting.{All, all_append}
use Rattle.soda.proofs.Terms.{size_pos}
use Rattle.soda.proofs.Words.{op_high, same_kind, encode-length, words_trans, compare_in_place}
use Rattle.soda.proofs.Normal.{by_operands, operands-some, chain_cons, normal-operands}
use Rattle.soda.proofs.EqualForms.{normal_keeps, normal-is-normal}
use Rattle.policy.specs.Words.{kind, sides}
use Rattle.normal.specs.Private.{span, lead, operand_of, Operand, Chain, last, more}
use Rattle.policy.proofs.Grammar.{op_sides}
use Rattle.policy.proofs.Encoding.{kind-word}

-- ── word counts ──
pub span_none : (ws : List ℕ) → span 0 ws ≡ 0
span_none [] = refl
span_none (w ∷ ws) = refl

pub span-within : (n : ℕ) (ws : List ℕ) → span n ws ≤ length ws
span-within n [] = omega arith
span-within zero (w ∷ ws) = omega arith
span-within (suc n) (w ∷ ws) = omega (arith, span-within (n + sides (kind w)) ws)

span-encode : (φ : Term) (rest : List ℕ) (n : ℕ) → So (fits φ) → span (suc n) (encode φ ++ rest) ≡ size φ + span n rest
span-encode everyone rest n f = rw add-zero
span-encode (role r) rest n f = rw (kind-word 2 r (so_lt r (2 ^ 16) f), add-zero)
span-encode (set m) rest n f = rw (kind-word 3 m (so_lt m (2 ^ 16) f), add-zero)
span-encode (¬ᵗ φ) rest n f = rw add-one (omega (arith, span-encode φ rest n f))
span-encode (φ ⁺) rest n f = rw add-one (omega (arith, span-encode φ rest n f))
span-encode (bin op φ ψ) rest n f =
    let g = and_split (fits φ) (fits ψ) f in
    rw (append_assoc (encode φ) (encode ψ) rest, kind-word (op_kind op) 0 (omega arith), op_sides op, add-two)
    (omega (arith, span-encode φ (encode ψ ++ rest) (suc n) g.0, span-encode ψ rest n g.1))

span-term : (φ : Term) (rest : List ℕ) → So (fits φ) → span 1 (encode φ ++ rest) ≡ size φ
span-term φ rest f = omega (arith, span-encode φ rest 0 f, span_none rest)

-- ── the first operand ──
pub lead_most : (w : ℕ) (ws : List ℕ) → lead w ws ≤ 1
lead_most w ws = by_test (eqb (get_or ws 0 0) w) (λ e. rw e (omega arith)) λ e. rw e (omega arith)

pub operand-within : (w : ℕ) (ws : List ℕ) → 0 < length ws → lead w ws + length (operand_of w ws) ≤ length ws
operand-within w ws h =
    let vs = drop (lead w ws) ws in
    omega (arith, lead_most w ws, length-take (span 1 vs) vs, span-within 1 vs, length-drop (lead w ws) ws)

module _ {w : ℕ} {φ : Term} (p : Operand w φ) where
  take-term : (rest : List ℕ) → take (span 1 (encode φ ++ rest)) (encode φ ++ rest) ≡ encode φ
  take-term rest = rw (span-term φ rest p.fit) (take_at (encode φ) rest (size φ) (encode-length φ))

  lead-last : (rest : List ℕ) → lead w (encode φ ++ rest) ≡ 0
  lead-last rest =
      let e = get_or-append (encode φ) rest 0 0 (omega (arith, encode-length φ, size_pos φ)) in
      rw (e, ne_eqb (get_or (encode φ) 0 0) w p.other)

  first-last : (rest : List ℕ) → operand_of w (encode φ ++ rest) ≡ encode φ
  first-last rest = rw (lead-last rest) (take-term rest)

  lead-more : (ws : List ℕ) → lead w (w ∷ (encode φ ++ ws)) ≡ 1
  lead-more ws = rw (eq-eqb w w refl)

  first_more : (ws : List ℕ) → operand_of w (w ∷ (encode φ ++ ws)) ≡ encode φ
  first_more ws = rw (lead-more ws) (take-term ws)

-- ── terms compared in place ──
le_more : (u q : List ℕ) → So (words_le u (u ++ q))
le_more [] q = refl
le_more (z ∷ u) q = rw (le-ltb z z (omega arith), eq-eqb z z refl) (le_more u q)

-- a term compares with another as with the words that begin with the other's
le_in_place : (φ ψ : Term) (q : List ℕ) → So (fits φ) → So (fits ψ) → words_le (encode φ) (encode ψ ++ q) ≡ term_le φ ψ
le_in_place φ ψ q f g = by_test (term_le φ ψ)
    (λ e. words_trans (encode φ) (encode ψ) (encode ψ ++ q) e (le_more (encode ψ) q) ∙ sym e)
    λ e. rw append-nil at (compare_in_place φ ψ [] q f g λ d. true≢false (sym (rw append-nil at (le_more (encode φ) [])) ∙ ap (term_le φ) d ∙ e))

-- ── chains ──
-- the first operand of a chain, and the operands behind it
pub record Head (w : ℕ) (ws : List ℕ) (l : List Term) : Type 0 where
  pub φ : Term
  pub others : List Term
  pub list : l ≡ φ ∷ others
  pub fine : Operand w φ
  pub words : operand_of w ws ≡ encode φ
  pub after : List ℕ
  pub part : drop (lead w ws) ws ≡ encode φ ++ after

left-first : (φ ψ : Term) {l m r s : List Term} → m ≡ φ ∷ l → s ≡ ψ ∷ r → term_le φ ψ ≡ true → merge term_le m s ≡ φ ∷ merge term_le l s
left-first φ ψ p q e = rw (p, q, e)

right-first : (φ ψ : Term) {l m r s : List Term} → m ≡ φ ∷ l → s ≡ ψ ∷ r → term_le φ ψ ≡ false → merge term_le m s ≡ ψ ∷ merge term_le m r
right-first φ ψ p q e = rw (p, q, e)

module _ {w : ℕ} where
  pub head : {ws : List ℕ} {l : List Term} {rest : List ℕ} → Chain w ws l rest → Head w ws l
  head (last {φ} {rest} p) = record { φ = φ; others = []; list = refl; fine = p; words = first-last p rest; after = rest; part = rw (lead-last p rest) }
  head (more {φ} {l} {ws} {rest} p c) = record { φ = φ; others = l; list = refl; fine = p; words = first_more p ws; after = ws; part = rw (lead-more p ws) }

  pub chain-long : {ws : List ℕ} {l : List Term} {rest : List ℕ} → Chain w ws l rest → 0 < length ws
  chain-long (last {φ} {rest} p) = omega (arith, length-append (encode φ) rest, encode-length φ, size_pos φ)
  chain-long (more p c) = omega arith

  -- where the operator's word leads, the chain goes on behind the first operand; else it ends there
  pub goes_on : {ws x : List ℕ} {l : List Term} {rest : List ℕ} (c : Chain w ws l rest) → x ≡ operand_of w ws → lead w ws ≡ 1
      → Chain w (drop (1 + length x) ws) (head c).others rest
  unfolding head
  goes_on (last {φ} {rest} p) e k = absurd (omega (arith, lead-last p rest))
  goes_on (more {φ} {l} {ws} {rest} p c) e k = rw (e ∙ first_more p ws, one-add, drop-append_seam (encode φ) ws) c

  pub ends : {ws x : List ℕ} {l : List Term} {rest : List ℕ} (c : Chain w ws l rest) → x ≡ operand_of w ws → lead w ws ≡ 0
      → (ws ≡ x ++ rest) × ((head c).others ≡ [])
  unfolding head
  ends (last {φ} {rest} p) e k = (rw (e ∙ first-last p rest), refl)
  ends (more {φ} {l} {ws} {rest} p c) e k = absurd (omega (arith, lead-more p ws))

  -- more words behind a chain
  pub chain_append : {ws : List ℕ} {l : List Term} {rest : List ℕ} → Chain w ws l rest → (vs : List ℕ) → Chain w (ws ++ vs) l (rest ++ vs)
  chain_append (last {φ} {rest} p) vs = rw append_assoc (last p)
  chain_append (more {φ} {l} {ws} {rest} p c) vs = rw append_assoc (more p (chain_append c vs))

  -- a first operand before a chain
  pub put : {ws x new : List ℕ} {l r : List Term} {rest : List ℕ} (h : Head w ws l) → x ≡ operand_of w ws → Chain w new r rest → Chain w (w ∷ (x ++ new)) (h.φ ∷ r) rest
  put h e c = rw (e ∙ h.words) (more h.fine c)

  -- the smaller of two first operands comes first
  module _ {a b x : List ℕ} {l r : List Term} {s t : List ℕ} (A : Chain w a l s) (B : Chain w b r t) (e : x ≡ operand_of w a) where
    in_order : words_le x (drop (lead w b) b) ≡ term_le (head A).φ (head B).φ
    in_order = rw (e ∙ (head A).words, (head B).part) (le_in_place (head A).φ (head B).φ (head B).after (head A).fine.fit (head B).fine.fit)

    pub merge-left : words_le x (drop (lead w b) b) ≡ true → merge term_le l r ≡ (head A).φ ∷ merge term_le (head A).others r
    merge-left h = left-first (head A).φ (head B).φ (head A).list (head B).list (sym in_order ∙ h)

    pub merge-right : words_le x (drop (lead w b) b) ≡ false → merge term_le l r ≡ (head B).φ ∷ merge term_le l (head B).others
    merge-right h = right-first (head A).φ (head B).φ (head A).list (head B).list (sym in_order ∙ h)

-- ── normal forms ──
-- an operand does not begin with the operator
operands_fine : (op : Op) (φ : Term) → So (fits φ) → All (Operand (op_word op)) (operands op φ)
operands_fine op everyone f = (record { other = λ e. omega (arith, op_high op); fit = f }, tt)
operands_fine op (role r) f = (record { other = λ e. omega (arith, op_high op, so_lt r (2 ^ 16) f); fit = f }, tt)
operands_fine op (set m) f = (record { other = λ e. omega (arith, op_high op, so_lt m (2 ^ 16) f); fit = f }, tt)
operands_fine op (¬ᵗ φ) f = (record { other = λ e. omega (arith, op_high op); fit = f }, tt)
operands_fine op (φ ⁺) f = (record { other = λ e. omega (arith, op_high op); fit = f }, tt)
operands_fine op (bin o φ ψ) f = by_test (same_op op o)
    (λ e. let s = and_split (fits φ) (fits ψ) f in
    rw e (all_append (Operand (op_word op)) (operands op φ) (operands op ψ) (operands_fine op φ s.0) (operands_fine op ψ s.1)))
    λ e. let n = same_kind op o ∙ e in
    rw e (record { other = λ d. eqb-false (op_kind o) (op_kind op) n (omega (arith, d)); fit = f }, tt)

-- a term in normal form is the chain of its operands
normal-chain : (op : Op) (φ : Term) → normal_form φ ≡ φ → chain op (operands op φ) ≡ φ
normal-chain op = by_operands op (λ φ. normal_form φ ≡ φ → chain op (operands op φ) ≡ φ) (λ φ e n. rw e)
    λ φ ψ h k n. ap (λ (χ : Term). chain op (operands op χ)) (sym n) ∙ ap (chain op) (normal-operands op φ ψ) ∙ n

chain-words : (op : Op) (l : List Term) (rest : List ℕ) → 0 < length l → All (Operand (op_word op)) l → Chain (op_word op) (encode (chain op l) ++ rest) l rest
chain-words op [] rest h p = absurd (omega arith)
chain-words op (φ ∷ []) rest h p = last p.0
chain-words op (φ ∷ ψ ∷ l) rest h p = rw append_assoc (more p.0 (chain-words op (ψ ∷ l) rest (omega arith) p.1))

-- the words of a normal form are a chain of any operator
pub normal-words : (op : Op) {w : ℕ} → w ≡ op_word op → (φ : Term) (rest : List ℕ) → So (fits φ) → Chain w (encode (normal_form φ) ++ rest) (operands op (normal_form φ)) rest
normal-words op e φ rest f =
    let n = normal_form φ in
    rw e
    (subst (λ (χ : Term). Chain (op_word op) (encode χ ++ rest) (operands op n) rest) (normal-chain op n (normal-is-normal φ f))
    (chain-words op (operands op n) rest (operands-some op n) (operands_fine op n ((normal_keeps φ).same_fits ∙ f))))

chain-some : {w : ℕ} {ws : List ℕ} {l : List Term} {rest : List ℕ} → Chain w ws l rest → 0 < length l
chain-some (last p) = omega arith
chain-some (more p c) = omega arith

pub words-chain : (op : Op) {w : ℕ} → w ≡ op_word op → {ws : List ℕ} {l : List Term} {rest : List ℕ} → Chain w ws l rest → ws ≡ encode (chain op l) ++ rest
words-chain op e (last p) = refl
words-chain op e (more {φ} {l} p c) = rw (e, chain_cons op φ l (chain-some c), append_assoc) (ap (λ (vs : List ℕ). op_word op ∷ (encode φ ++ vs)) (words-chain op e c))
