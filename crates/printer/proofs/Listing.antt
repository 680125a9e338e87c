-- The users of a set, listed one by one.
use mathlib.Core.Path.{◌≡◌, ap}
use mathlib.Core.Bool.{true, false}
use mathlib.Core.List.{List, ◌∷◌, ◌++◌, append_assoc}
use Prim.Native.Nat.{ℕ, suc, ◌+◌, ◌-◌, ◌≤◌, ◌<◌}
use Prim.Native.Char.{code}
use native.Mathlib.Numerals.{add-one}
use native.Mathlib.Omega.{arith}
use Rattle.soda.specs.Bits.{bit}
use Rattle.text.specs.Texts.{ascii, numeral, members, listed}

-- the text of the users from u on, with the sign before the first, and of the set's end
abbrev pub listed_from : ℕ → ℕ → ℕ → List ℕ
listed_from m sign u = listed sign (members (16 - u) u m) ++ ascii "}"

pub listed-skips : (m sign u : ℕ) → u < 16 → bit u m ≡ false → listed_from m sign u ≡ listed_from m sign (u + 1)
listed-skips m sign u h e = let k : 16 - u ≡ suc (16 - suc u) = omega arith in rw (add-one u, k, e)

pub listed_names : (m sign u : ℕ) → u < 16 → bit u m ≡ true → listed_from m sign u ≡ sign ∷ (numeral u ++ listed_from m (code ",") (u + 1))
listed_names m sign u h e =
    let k : 16 - u ≡ suc (16 - suc u) = omega arith in
    rw (add-one u, k, e) (ap (λ (l : List ℕ). sign ∷ l) (append_assoc (numeral u) (listed (code ",") (members (16 - suc u) (suc u) m)) (ascii "}")))

pub listed-ends : (m sign u : ℕ) → 16 ≤ u → listed_from m sign u ≡ ascii "}"
listed-ends m sign u h = let k : 16 - u ≡ 0 = omega arith in rw k
