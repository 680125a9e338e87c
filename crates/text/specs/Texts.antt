-- Policies as text (document 02, E7): the text of a term, byte for byte.
use Rattle.std.specs.Prelude.{cond, List, [], ◌∷◌, ◌++◌, ℕ, zero, suc, ◌+◌, ◌-◌, ltb}
use Prim.Native.Char.{code}
use Prim.Native.String.{String, [] as empty, ◌∷◌ as before}
use Rattle.soda.specs.Bits.{bit}
use Rattle.soda.specs.Terms.{Op, either, both, together, apart, Term, everyone, role, set, ¬ᵗ◌, ◌⁺, bin}

-- the bytes of a quoted text
abbrev pub ascii : String → List ℕ
ascii empty = []
ascii (before c s) = code c ∷ ascii s

-- "The text starts with the eight bytes `policy: `, the last being a space."
abbrev pub opening : List ℕ
opening = ascii "policy: "

-- a number up to 15: "Numbers have no leading zero"
abbrev pub digit : ℕ → ℕ
digit n = code "0" + n

abbrev pub numeral : ℕ → List ℕ
numeral n = cond (ltb n 10) (digit n ∷ []) (digit 1 ∷ digit (n - 10) ∷ [])

-- the users of a set, ascending: of the k users from u on those whose bit is set in m
abbrev pub members : ℕ → ℕ → ℕ → List ℕ
members zero u m = []
members (suc k) u m = cond (bit u m) (u ∷ members k (suc u) m) (members k (suc u) m)

-- "`{`, one or more strictly ascending person numbers parted by commas, `}`": one sign before the first number, a comma before each other
abbrev pub listed : ℕ → List ℕ → List ℕ
listed sign [] = []
listed sign (u ∷ l) = sign ∷ (numeral u ++ listed (code ",") l)

abbrev pub set_text : ℕ → List ℕ
set_text m = listed (code "{") (members 16 0 m) ++ ascii "}"

-- an operator with the spaces around it: "`or` is either and `with` is together"
abbrev pub op_text : Op → List ℕ
op_text either = ascii " or "
op_text both = ascii " both "
op_text together = ascii " with "
op_text apart = ascii " apart "

-- "Then one term: `all`, `r` and a role number, [a set], `not ` or `plus ` and a term, or `(` term, space, one of `or`, `both`, `with`,
-- `apart`, space, term `)`."
abbrev pub text : Term → List ℕ
text everyone = ascii "all"
text (role r) = ascii "r" ++ numeral r
text (set m) = set_text m
text (¬ᵗ φ) = ascii "not " ++ text φ
text (φ ⁺) = ascii "plus " ++ text φ
text (bin op φ ψ) = ascii "(" ++ (text φ ++ (op_text op ++ (text ψ ++ ascii ")")))

abbrev pub policy_text : Term → List ℕ
policy_text φ = opening ++ text φ
