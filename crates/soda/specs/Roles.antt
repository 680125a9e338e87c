-- Who holds which roles and which roles give which actions (document 004, Definition 1), what a grant and a revocation do to it (Definition
-- 4), and when a user meets a unit term (document 01, "When one person meets a unit term").
use Rattle.std.specs.Prelude.{Bool, false, not, ◌&&◌, ◌||◌, List, ℕ, ltb, eqb, length, get_or, set as put}
use Rattle.soda.specs.Bits.{bit, set_bit, clear_bit}
use Rattle.soda.specs.Lists.{any, range}
use Rattle.soda.specs.Terms.{Op, either, both, together, apart, Term, everyone, role, set, ¬ᵗ◌, ◌⁺, bin}

-- The user assignment UA (01: grants): row u is the set of the roles that user u holds, bit r for role r. The users are those
-- with a row.
abbrev pub UA : Type 0
UA = List ℕ

abbrev pub roles : UA → ℕ → ℕ
roles ua u = get_or ua u 0

-- (u, r) ∈ UA
abbrev pub assigned : UA → ℕ → ℕ → Bool
assigned ua u r = bit r (roles ua u)

-- UA ∪ {(u, r)} and UA \ {(u, r)}
abbrev pub grant : UA → ℕ → ℕ → UA
grant ua u r = put ua u (set_bit r (roles ua u))

abbrev pub revoke : UA → ℕ → ℕ → UA
revoke ua u r = put ua u (clear_bit r (roles ua u))

-- The permission assignment PA (document 02: permission sheet): row r is the set of the actions that role r gives, bit a for action a. The
-- actions are numbered 0 to 63.
abbrev pub PA : Type 0
PA = List ℕ

-- (r, a) ∈ PA
abbrev pub permitted : PA → ℕ → ℕ → Bool
permitted pa r a = ltb a 64 && bit a (get_or pa r 0)

-- a user who holds the roles of the set h is authorized to execute action a: one of them gives it
abbrev pub authorized : PA → ℕ → ℕ → Bool
authorized pa h a = any (λ r. bit r h && permitted pa r a) (range 0 (length pa))

-- "holds some role": the set h of the roles held is not empty
abbrev pub holds_role : ℕ → Bool
holds_role h = not (eqb h 0)

-- Either and both of two answers. Together and apart stand in no unit term.
abbrev pub meets_op : Op → Bool → Bool → Bool
meets_op either a b = a || b
meets_op both a b = a && b
meets_op together a b = false
meets_op apart a b = false

-- Not of an answer, for a user who holds the roles of the set h. It is rule 4 of 004's Definition 3 as document 02's E3 replaces it: "a person
-- meets not exactly if she holds a role and does not meet the inner term". The paper's rule has the second half alone.
abbrev pub meets_not : ℕ → Bool → Bool
meets_not h a = holds_role h && not a

-- Whether user u, who holds the roles of the set h, meets a unit term.
abbrev pub meets : Term → ℕ → ℕ → Bool
meets everyone u h = holds_role h
meets (role r) u h = bit r h
meets (set m) u h = bit u m && holds_role h
meets (¬ᵗ φ) u h = meets_not h (meets φ u h)
meets (φ ⁺) u h = false
meets (bin op φ ψ) u h = meets_op op (meets φ u h) (meets ψ u h)
