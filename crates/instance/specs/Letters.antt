-- The letters of a status (document 01: standing), as bytes.
use Rattle.std.specs.Prelude.{◌≡◌, Bool, false, ◌||◌, cond, ℕ, eqb, Result, MatchResult}
use Rattle.instance.specs.declared.status.Status.{Status}
use Rattle.instance.specs.declared.status.Status.TheVariants.{Closed, Complete, Open}
use Rattle.instance.specs.declared.status.UnknownLetter.{UnknownLetter}

-- `d`, `c` and `o`
abbrev pub letter_d : ℕ
letter_d = 100

abbrev pub letter_c : ℕ
letter_c = 99

abbrev pub letter_o : ℕ
letter_o = 111

-- one of the three
abbrev pub is_letter : ℕ → Bool
is_letter l = eqb l letter_d || (eqb l letter_c || eqb l letter_o)

-- of an instance that is not closed: "`c` if the taken actions satisfy, else `o`"
abbrev pub open_letter : Bool → ℕ
open_letter is_satisfied = cond is_satisfied letter_c letter_o

-- of a status
abbrev pub letter : Status → ℕ
letter Closed = letter_d
letter Complete = letter_c
letter Open = letter_o

-- the status with this letter, or an error with the byte that is none of the three
abbrev pub Reads : ℕ → Result Status UnknownLetter → Type 0
Reads l r = MatchResult r (λ s. letter s ≡ l) (λ e. (e.0 ≡ l) × (is_letter l ≡ false))
