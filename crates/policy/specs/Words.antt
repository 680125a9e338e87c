-- Policy words (document 01, "People, roles and policy words"): their parts, their layout, and the term that a list of words is.
use Rattle.std.specs.Prelude.{ℕ, ◌/◌, ◌%◌, ◌^◌, Bool, cond, not, ◌&&◌, List, [], ◌∷◌, ◌==◌, nat_le, nat_lt, slice_index_or}
use Rattle.std.proofs.Math.Option.{Option, some, none}
use Rattle.soda.specs.Terms.{Op, either, both, together, apart, Term, everyone, role, set, ¬ᵗ◌, ◌⁺, bin}
use Rattle.policy.specs.Kinds.{EVERYONE, ROLE, SET, NOT, EITHER, APART}

-- the kind sits in bits 24 to 31, the operand in bits 0 to 15
abbrev pub kind : ℕ → ℕ
kind w = w / 2 ^ 24

abbrev pub operand : ℕ → ℕ
operand w = w % 2 ^ 16

-- The number of sides of a word by its kind: "below 4 none, below 6 one, else two" (document 02, E5). `SidesOfTerm` ties it to terms.
-- Kind 0 would have none and a kind above 9 two; neither is in the layout, and 2 comes before a word's sides are asked for.
abbrev pub sides : ℕ → ℕ
sides k = cond (nat_lt k NOT) 0 (cond (nat_lt k EITHER) 1 2)

-- the sides of a term, in the order of their words
abbrev pub term_sides : Term → List Term
term_sides everyone = []
term_sides (role r) = []
term_sides (set m) = []
term_sides (¬ᵗ φ) = φ ∷ []
term_sides (φ ⁺) = φ ∷ []
term_sides (bin op φ ψ) = φ ∷ ψ ∷ []

-- the operand names only what is declared: a role of `roles`, a set of `users` that is not empty; else it is 0
abbrev pub operand_ok : ℕ → ℕ → ℕ → ℕ → Bool
operand_ok users roles k x =
    cond (k == ROLE) (nat_lt x roles)
    (cond (k == SET) (not (x == 0) && nat_lt x (2 ^ users))
    (x == 0))

-- a word is in the layout: kinds 1 to 9, bits 16 to 23 zero, an operand as above (01, number 2)
abbrev pub word_ok : ℕ → ℕ → ℕ → Bool
word_ok users roles w =
    (w / 2 ^ 16 % 2 ^ 8 == 0)
    && (nat_le EVERYONE (kind w) && (nat_le (kind w) APART && operand_ok users roles (kind w) (operand w)))

-- a kind of 01's table; kind 0 and those above 9 are none
abbrev pub known : ℕ → Bool
known k = nat_le EVERYONE k && nat_le k APART

-- 01's table of kinds; every other is `bad`
pub data Kind : Type 0 where
  bad everyone_k role_k set_k not_k plus_k : Kind
  op_k : Op → Kind

abbrev pub kind_of : ℕ → Kind
kind_of k =
    slice_index_or (bad ∷ everyone_k ∷ role_k ∷ set_k ∷ not_k ∷ plus_k ∷ op_k either ∷ op_k both ∷ op_k together ∷ op_k apart ∷ []) k bad

-- Words are read from the last to the first. What is read so far is a row of terms; a word takes its sides from the row's
-- front. `none` stands for a term that lacks a side, or whose kind is bad.
abbrev pub head : List (Option Term) → Option Term
head [] = none
head (t ∷ ts) = t

abbrev pub tail : List (Option Term) → List (Option Term)
tail [] = []
tail (t ∷ ts) = ts

abbrev pub lift1 : (Term → Term) → Option Term → Option Term
lift1 f none = none
lift1 f (some t) = some (f t)

abbrev pub lift2 : Op → Option Term → Option Term → Option Term
lift2 op none u = none
lift2 op (some t) u = lift1 (bin op t) u

abbrev pub push : Kind → ℕ → List (Option Term) → List (Option Term)
push bad x ts = none ∷ ts
push everyone_k x ts = some everyone ∷ ts
push role_k x ts = some (role x) ∷ ts
push set_k x ts = some (set x) ∷ ts
push not_k x ts = lift1 ¬ᵗ◌ (head ts) ∷ tail ts
push plus_k x ts = lift1 ◌⁺ (head ts) ∷ tail ts
push (op_k op) x ts = lift2 op (head ts) (head (tail ts)) ∷ tail (tail ts)

abbrev pub row : List ℕ → List (Option Term)
row [] = []
row (w ∷ ws) = push (kind_of (kind w)) (operand w) (row ws)

-- the term that the words begin with
abbrev pub first : List ℕ → Option Term
first ws = head (row ws)

abbrev pub single : List (Option Term) → Option Term
single [] = none
single (t ∷ []) = t
single (t ∷ u ∷ ts) = none

-- the one term that the words are, if they are exactly one term (01, number 3)
abbrev pub decode : List ℕ → Option Term
decode ws = single (row ws)

-- the term itself; `everyone` stands in where there is none
abbrev pub term_of : Option Term → Term
term_of none = everyone
term_of (some φ) = φ
