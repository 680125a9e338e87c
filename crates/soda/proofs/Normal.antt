-- A term and its normal form are related by steps, and related terms that fit have one normal form; the normal form as a chain.
use mathlib.Core.Path.{◌≡◌, refl, sym, ◌∙◌, ap, subst}
use mathlib.Core.Bool.{false, So}
use mathlib.Core.List.{List, [], ◌∷◌, ◌++◌, map, map-append, append_assoc}
use Prim.Native.Nat.{◌<◌}
use native.Mathlib.Omega.{arith}
use lib.ListN.{length, length-append}
use Rattle.soda.specs.Lists.{insert, ascending}
use Rattle.soda.specs.Terms.{Op, either, both, together, apart, Term, everyone, role, set, ¬ᵗ◌, ◌⁺, bin, same_op}
use Rattle.soda.specs.Words.{fits, term_le}
use Rattle.soda.specs.Steps.{Turn, exchange, regroup, back, Step, here, in_not, in_plus, in_left, in_right, Steps}
use Rattle.soda.specs.Normal.{operands, chain, sorted, normal_form}
use Rattle.soda.specs.EqualForms.{SameFormIsSteps, OperandsAscend, NormalIsChain, ByOperands, OperandsSome, ChainCons, NormalOperands, NormalIsMerge}
use Rattle.soda.proofs.Bools.{never, by_test, and_split, and-join}
use Rattle.soda.proofs.Sorting.{All, all_append, insert-length, merge-sort}
use Rattle.soda.proofs.Sorting.{sort-length, sort-all, sort-ascending, sort-sort, sort_comm, sort-left, sort-right}
use Rattle.soda.proofs.Words.{term-total, term_trans, term_antisym}
use Rattle.soda.proofs.Steps.{one-turn, steps_trans, steps_back, steps_eq, steps-not, steps-plus, steps-right, steps-both, steps-fits}

-- ── operators ──
same_op-refl : (op : Op) → So (same_op op op)
same_op-refl either = refl
same_op-refl both = refl
same_op-refl together = refl
same_op-refl apart = refl

same_op_eq : (op o : Op) → So (same_op op o) → op ≡ o
same_op_eq either = elim [ either ↦ λ e. refl | both ↦ never | together ↦ never | apart ↦ never ]
same_op_eq both = elim [ either ↦ never | both ↦ λ e. refl | together ↦ never | apart ↦ never ]
same_op_eq together = elim [ either ↦ never | both ↦ never | together ↦ λ e. refl | apart ↦ never ]
same_op_eq apart = elim [ either ↦ never | both ↦ never | together ↦ never | apart ↦ λ e. refl ]

-- ── operands ──
-- a term that does not begin with the operator is one operand
abbrev Plain : Op → Term → Type 0
Plain op φ = operands op φ ≡ φ ∷ []

operands_same : (op : Op) (φ ψ : Term) → operands op (bin op φ ψ) ≡ operands op φ ++ operands op ψ
operands_same op φ ψ = rw (same_op-refl op)

-- Induction along a chain: a term is one operand, or two terms under the operator.
pub by_operands : ByOperands
by_operands op P one two everyone = one everyone refl
by_operands op P one two (role r) = one (role r) refl
by_operands op P one two (set m) = one (set m) refl
by_operands op P one two (¬ᵗ φ) = one (¬ᵗ φ) refl
by_operands op P one two (φ ⁺) = one (φ ⁺) refl
by_operands op P one two (bin o φ ψ) = by_test (same_op op o)
    (λ e. subst (λ (p : Op). P (bin p φ ψ)) (same_op_eq op o e) (two φ ψ (by_operands op P one two φ) (by_operands op P one two ψ)))
    λ e. one (bin o φ ψ) (rw e)

pub operands-some : OperandsSome
operands-some op = by_operands op (λ φ. 0 < length (operands op φ)) (λ φ e. rw e (omega arith))
    λ φ ψ h k. rw (operands_same op φ ψ) (omega (arith, length-append (operands op φ) (operands op ψ)))

operands-two : (op : Op) (φ ψ : Term) → 1 < length (operands op φ ++ operands op ψ)
operands-two op φ ψ = omega (arith, length-append (operands op φ) (operands op ψ), operands-some op φ, operands-some op ψ)

operands_plain : (op : Op) (φ : Term) → All (Plain op) (operands op φ)
operands_plain op = by_operands op (λ φ. All (Plain op) (operands op φ)) (λ φ e. subst (λ (l : List Term). All (Plain op) l) (sym e) (e, tt))
    λ φ ψ h k. subst (λ (l : List Term). All (Plain op) l) (sym (operands_same op φ ψ)) (all_append (Plain op) (operands op φ) (operands op ψ) h k)

pub chain_cons : ChainCons
chain_cons op φ [] h = absurd (omega arith)
chain_cons op φ (ψ ∷ l) h = refl

-- a chain's operands are the list that it was made from
operands-chain : (op : Op) (l : List Term) → 0 < length l → All (Plain op) l → operands op (chain op l) ≡ l
operands-chain op [] h p = absurd (omega arith)
operands-chain op (φ ∷ []) h p = p.0
operands-chain op (φ ∷ ψ ∷ l) h p = operands_same op φ (chain op (ψ ∷ l)) ∙ λ i. p.0 i ++ operands-chain op (ψ ∷ l) (omega arith) p.1 i

-- ── a term and its normal form are related ──
-- two chains side by side make one
chain_append : (op : Op) (l m : List Term) → 0 < length l → 0 < length m → Steps (bin op (chain op l) (chain op m)) (chain op (l ++ m))
chain_append op [] m h k = absurd (omega arith)
chain_append op (φ ∷ []) m h k = steps_eq (sym (chain_cons op φ m k))
chain_append op (φ ∷ ψ ∷ l) m h k = steps_trans (one-turn (regroup op φ (chain op (ψ ∷ l)) (chain op m)))
    (steps-right op φ (chain_append op (ψ ∷ l) m (omega arith) k))

steps-operands : (op : Op) (φ : Term) → Steps φ (chain op (operands op φ))
steps-operands op = by_operands op (λ φ. Steps φ (chain op (operands op φ))) (λ φ e. rw e Steps.none)
    λ φ ψ h k. rw (operands_same op φ ψ)
    (steps_trans (steps-both op h k) (chain_append op (operands op φ) (operands op ψ) (operands-some op φ) (operands-some op ψ)))

-- the first two operands of a longer chain change places
swap_front : (op : Op) (a b c : Term) → Steps (bin op a (bin op b c)) (bin op b (bin op a c))
swap_front op a b c = Steps.step (here (back op a b c)) (Steps.step (in_left (here (exchange op a b))) (one-turn (regroup op b a c)))

chain-insert : (op : Op) (φ : Term) (l : List Term) → Steps (chain op (φ ∷ l)) (chain op (insert term_le φ l))
chain-insert op φ [] = Steps.none
chain-insert op φ (ψ ∷ []) = by_test (term_le φ ψ) (λ e. rw e Steps.none) λ e. rw e (one-turn (exchange op φ ψ))
chain-insert op φ (ψ ∷ χ ∷ l) = by_test (term_le φ ψ) (λ e. rw e Steps.none)
    λ e. rw (e, chain_cons op ψ (insert term_le φ (χ ∷ l)) (omega (arith, insert-length term_le φ (χ ∷ l))))
    (steps_trans (swap_front op φ ψ (chain op (χ ∷ l))) (steps-right op ψ (chain-insert op φ (χ ∷ l))))

chain-sorted : (op : Op) (l : List Term) → Steps (chain op l) (chain op (sorted l))
chain-sorted op [] = Steps.none
chain-sorted op (φ ∷ []) = Steps.none
chain-sorted op (φ ∷ ψ ∷ l) = steps_trans (steps-right op φ (chain-sorted op (ψ ∷ l)))
    (steps_trans (steps_eq (sym (chain_cons op φ (sorted (ψ ∷ l)) (omega (arith, sort-length term_le (ψ ∷ l)))))) (chain-insert op φ (sorted (ψ ∷ l))))

-- the operands of a term's normal form
abbrev parts : Op → Term → List Term
parts op φ = operands op (normal_form φ)

pub steps_nf : (φ : Term) → Steps φ (normal_form φ)
steps_nf everyone = Steps.none
steps_nf (role r) = Steps.none
steps_nf (set m) = Steps.none
steps_nf (¬ᵗ φ) = steps-not (steps_nf φ)
steps_nf (φ ⁺) = steps-plus (steps_nf φ)
steps_nf (bin op φ ψ) = steps_trans (steps-both op (steps_nf φ) (steps_nf ψ))
    (steps_trans (steps-both op (steps-operands op (normal_form φ)) (steps-operands op (normal_form ψ)))
    (steps_trans (chain_append op (parts op φ) (parts op ψ) (operands-some op (normal_form φ)) (operands-some op (normal_form ψ)))
    (chain-sorted op (parts op φ ++ parts op ψ))))

-- ── each step keeps the normal form ──
abbrev Fits : Term → Type 0
Fits φ = So (fits φ)

operands-fit : (op : Op) (φ : Term) → Fits φ → All Fits (operands op φ)
operands-fit op = by_operands op (λ φ. Fits φ → All Fits (operands op φ)) (λ φ e f. rw e (f, tt)) λ φ ψ h k f.
    let s = and_split (fits φ) (fits ψ) f in
    rw (operands_same op φ ψ) (all_append Fits (operands op φ) (operands op ψ) (h s.0) (k s.1))

parts_fit : (op : Op) (φ : Term) → Fits φ → All Fits (parts op φ)
parts_fit op φ f = operands-fit op (normal_form φ) (sym (steps-fits (steps_nf φ)) ∙ f)

pub normal-operands : NormalOperands
normal-operands op φ ψ =
    let l = parts op φ ++ parts op ψ in
    operands-chain op (sorted l) (omega (arith, sort-length term_le l, operands-two op (normal_form φ) (normal_form ψ)))
    (sort-all term_le (Plain op) l (all_append (Plain op) (parts op φ) (parts op ψ) (operands_plain op (normal_form φ)) (operands_plain op (normal_form ψ))))

parts_sorted : (op : Op) (φ ψ : Term) → sorted (parts op (bin op φ ψ)) ≡ sorted (parts op φ ++ parts op ψ)
parts_sorted op φ ψ = ap sorted (normal-operands op φ ψ) ∙ sort-sort term_le term-total (parts op φ ++ parts op ψ)

-- sorting forgets the order, as terms that fit are equal where their words are
sorted_comm : (l m : List Term) → All Fits l → All Fits m → sorted (l ++ m) ≡ sorted (m ++ l)
sorted_comm = sort_comm term_le term-total term_trans Fits term_antisym

sorted-left : (l m n : List Term) → All Fits l → All Fits m → All Fits n → sorted l ≡ sorted m → sorted (l ++ n) ≡ sorted (m ++ n)
sorted-left = sort-left term_le term-total term_trans Fits term_antisym

nf_regroup : (op : Op) (a b c : Term) → Fits a → Fits b → Fits c → normal_form (bin op (bin op a b) c) ≡ normal_form (bin op a (bin op b c))
nf_regroup op a b c fa fb fc =
    let pa = parts op a in
    let pb = parts op b in
    let pc = parts op c in
    ap (chain op) (sorted-left (parts op (bin op a b)) (pa ++ pb) pc (parts_fit op (bin op a b) (and-join (fits a) (fits b) fa fb))
    (all_append Fits pa pb (parts_fit op a fa) (parts_fit op b fb)) (parts_fit op c fc) (parts_sorted op a b)
    ∙ ap sorted (append_assoc pa pb pc)
    ∙ sort-right term_le pa (pb ++ pc) (parts op (bin op b c)) (sym (parts_sorted op b c)))

nf_turn : {a b : Term} → Fits a → Turn a b → normal_form a ≡ normal_form b
nf_turn f (exchange op a b) =
    let h = and_split (fits a) (fits b) f in
    ap (chain op) (sorted_comm (parts op a) (parts op b) (parts_fit op a h.0) (parts_fit op b h.1))
nf_turn f (regroup op a b c) =
    let h = and_split (fits (bin op a b)) (fits c) f in
    let k = and_split (fits a) (fits b) h.0 in
    nf_regroup op a b c k.0 k.1 h.1
nf_turn f (back op a b c) =
    let h = and_split (fits a) (fits (bin op b c)) f in
    let k = and_split (fits b) (fits c) h.1 in
    sym (nf_regroup op a b c h.0 k.0 k.1)

nf_step : {a b : Term} → So (fits a) → Step a b → normal_form a ≡ normal_form b
nf_step f (here t) = nf_turn f t
nf_step f (in_not s) = ap ¬ᵗ◌ (nf_step f s)
nf_step f (in_plus s) = ap ◌⁺ (nf_step f s)
nf_step f (in_left {op} {a} {b} {c} s) = ap (λ (φ : Term). chain op (sorted (operands op φ ++ parts op c))) (nf_step (and_split (fits a) (fits c) f).0 s)
nf_step f (in_right {op} {a} {b} {c} s) = ap (λ (φ : Term). chain op (sorted (parts op a ++ operands op φ))) (nf_step (and_split (fits a) (fits b) f).1 s)

pub nf_steps : {a b : Term} → So (fits a) → Steps a b → normal_form a ≡ normal_form b
nf_steps f Steps.none = refl
nf_steps f (Steps.step s p) = nf_step f s ∙ nf_steps (sym (steps-fits (Steps.step s Steps.none)) ∙ f) p

pub same-form-is-steps : SameFormIsSteps
same-form-is-steps φ ψ f = (λ e. steps_trans (steps_nf φ) (steps_trans (steps_eq e) (steps_back (steps_nf ψ))), nf_steps f)

-- ── the normal form as a chain ──
-- a chain of two or more begins with its operator, so for another operator it is one operand
chain_plain : (op o : Op) (l : List Term) → same_op op o ≡ false → 1 < length l → Plain op (chain o l)
chain_plain op o [] e h = absurd (omega arith)
chain_plain op o (φ ∷ []) e h = absurd (omega arith)
chain_plain op o (φ ∷ ψ ∷ l) e h = rw e

-- the normal form of one operand is one operand
plain_nf : (op : Op) (φ : Term) → Plain op φ → Plain op (normal_form φ)
plain_nf op everyone e = refl
plain_nf op (role r) e = refl
plain_nf op (set m) e = refl
plain_nf op (¬ᵗ φ) e = refl
plain_nf op (φ ⁺) e = refl
plain_nf op (bin o φ ψ) e = by_test (same_op op o)
    (λ d. absurd (omega (arith, ap (λ (l : List Term). length l) (rw d at e), operands-two op φ ψ)))
    λ d. chain_plain op o (sorted (parts o φ ++ parts o ψ)) d
    (omega (arith, sort-length term_le (parts o φ ++ parts o ψ), operands-two o (normal_form φ) (normal_form ψ)))

-- the two sides' operands need only be merged
pub operands_ascend : OperandsAscend
operands_ascend op = by_operands op (λ φ. So (ascending term_le (parts op φ))) (λ φ e. rw (plain_nf op φ e) refl)
    λ φ ψ h k. rw (normal-operands op φ ψ) (sort-ascending term_le term-total (parts op φ ++ parts op ψ))

pub normal-is-merge : NormalIsMerge
normal-is-merge op φ ψ = ap (chain op) (sym (merge-sort term_le term-total term_trans (parts op φ) (parts op ψ) (operands_ascend op φ) (operands_ascend op ψ)))

-- the normal forms of a term's operands are the operands of its normal form, in some order
nfs_fit : (l : List Term) → All Fits l → All Fits (map normal_form l)
nfs_fit [] h = tt
nfs_fit (φ ∷ l) h = (sym (steps-fits (steps_nf φ)) ∙ h.0, nfs_fit l h.1)

parts_operands : (op : Op) (φ : Term) → Fits φ → sorted (map normal_form (operands op φ)) ≡ sorted (parts op φ)
parts_operands op = by_operands op (λ φ. Fits φ → sorted (map normal_form (operands op φ)) ≡ sorted (parts op φ))
    (λ φ e f. rw (e, plain_nf op φ e)) λ φ ψ h k f.
    let s = and_split (fits φ) (fits ψ) f in
    let l = map normal_form (operands op φ) in
    let m = map normal_form (operands op ψ) in
    ap (λ (r : List Term). sorted (map normal_form r)) (operands_same op φ ψ) ∙ ap sorted (map-append normal_form (operands op φ) (operands op ψ))
    ∙ sorted-left l (parts op φ) m (nfs_fit (operands op φ) (operands-fit op φ s.0)) (parts_fit op φ s.0)
    (nfs_fit (operands op ψ) (operands-fit op ψ s.1)) (h s.0)
    ∙ sort-right term_le (parts op φ) m (parts op ψ) (k s.1) ∙ sym (parts_sorted op φ ψ)

pub normal-is-chain : NormalIsChain
normal-is-chain op φ ψ f = ap (chain op) (sym (parts_sorted op φ ψ) ∙ sym (parts_operands op (bin op φ ψ) f))
