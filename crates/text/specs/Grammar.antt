-- What a reader of texts accepts (document 02, E7), apart from `text`, whose inverse it is: `ParseIsText` of Laws.
use Rattle.std.specs.Prelude.{Bool, true, false, ◌&&◌, cond, List, [], ◌∷◌, ℕ, zero, suc, ◌+◌, ◌-◌, ◌^◌, leb, ltb, eqb, length}
use Rattle.std.proofs.Math.Option.{Option, some, none}
use Rattle.soda.specs.Terms.{Op, either, both, together, apart, Term, everyone, role, set, ¬ᵗ◌, ◌⁺, bin}
use Rattle.text.specs.Texts.{ascii, digit}

-- ── readers ──
-- A reader finds something at a text's beginning, and what stands behind it; or nothing.
abbrev pub Read : Type 0 → Type 0
Read A = Option (A × List ℕ)

module _ {A B : Type 0} where
  -- what is made of what was found
  abbrev pub upon : Option A → (A → Option B) → Option B
  upon none f = none
  upon (some a) f = f a

module _ {A : Type 0} where
  -- the first that finds something
  abbrev pub or_else : Option A → Option A → Option A
  or_else none other = other
  or_else (some a) other = some a

  abbrev pub is_found : Option A → Bool
  is_found none = false
  is_found (some a) = true

-- what stands behind these bytes
abbrev pub behind : List ℕ → List ℕ → Option (List ℕ)
behind [] t = some t
behind (b ∷ bs) [] = none
behind (b ∷ bs) (c ∷ t) = cond (eqb c b) (behind bs t) none

-- these bytes, which stand for a
abbrev pub keyword : {A : Type 0} → List ℕ → A → List ℕ → Read A
keyword bs a t = upon (behind bs t) (λ rest. some (a, rest))

-- ── numbers ──
-- A number up to 15: a second digit belongs to it where it makes one of 10 to 15. Nothing in a text may follow a number but a comma, `}`, a
-- space, `)` or the end, so `07` and `16` are none.
abbrev pub second : List ℕ → Read ℕ
second [] = some (1, [])
second (b ∷ t) = cond (leb (digit 0) b && leb b (digit 5)) (some (10 + (b - digit 0), t)) (some (1, b ∷ t))

abbrev pub numeral_in : List ℕ → Read ℕ
numeral_in [] = none
numeral_in (a ∷ t) =
    cond (eqb a (digit 1)) (second t)
    (cond (leb (digit 0) a && leb a (digit 9)) (some (a - digit 0, t))
    none)

-- ── sets ──
-- The numbers of a set and its `}`, at most n of them: each is at least `low`, one more than the number before it; m has the bits so far.
abbrev pub members_in : ℕ → ℕ → ℕ → List ℕ → Read ℕ
members_in zero low m t = none
members_in (suc n) low m t =
    upon (numeral_in t) (λ u. cond (ltb u.0 low) none
    (or_else (keyword (ascii "}") (m + 2 ^ u.0) u.1)
    (upon (behind (ascii ",") u.1) (members_in n (suc u.0) (m + 2 ^ u.0)))))

-- ── terms ──
-- `all`, a role or a set
abbrev pub role_in : List ℕ → Read Term
role_in t = upon (numeral_in t) (λ r. some (role r.0, r.1))

abbrev pub set_in : List ℕ → Read Term
set_in t = upon (members_in 16 0 0 t) (λ m. some (set m.0, m.1))

abbrev pub leaf_in : List ℕ → Read Term
leaf_in t =
    or_else (keyword (ascii "all") everyone t)
    (or_else (upon (behind (ascii "r") t) role_in)
    (upon (behind (ascii "{") t) set_in))

-- what stands before a side: `not ` or `plus `, or the `(` of two sides
pub data Head : Type 0 where
  over : (Term → Term) → Head
  pair : Head

abbrev pub head_in : List ℕ → Read Head
head_in t =
    or_else (keyword (ascii "(") pair t)
    (or_else (keyword (ascii "not ") (over ¬ᵗ◌) t)
    (keyword (ascii "plus ") (over ◌⁺) t))

abbrev pub operator_in : List ℕ → Read Op
operator_in t =
    or_else (keyword (ascii " or ") either t)
    (or_else (keyword (ascii " both ") both t)
    (or_else (keyword (ascii " with ") together t)
    (keyword (ascii " apart ") apart t)))

-- a term's sides, each read by `side`
abbrev pub sides_in : (List ℕ → Read Term) → Head → List ℕ → Read Term
sides_in side (over f) t = upon (side t) (λ φ. some (f φ.0, φ.1))
sides_in side pair t =
    upon (side t) (λ φ. upon (operator_in φ.1) (λ op. upon (side op.1) (λ ψ.
    keyword (ascii ")") (bin op.0 φ.0 ψ.0) ψ.1)))

-- a term with at most n words on a way down from it
abbrev pub term_in : ℕ → List ℕ → Read Term
term_in zero t = none
term_in (suc n) t = or_else (leaf_in t) (upon (head_in t) (λ h. sides_in (term_in n) h.0 h.1))

-- nothing is left
abbrev pub at_end : Term → List ℕ → Option Term
at_end φ [] = some φ
at_end φ (b ∷ t) = none

-- the term that a text is: it has no more words than bytes
unfoldable pub parse : List ℕ → Option Term
parse t = upon (term_in (length t) t) (λ φ. at_end φ.0 φ.1)
