-- The order of refusals (document 01, "Numbers, by who causes them"): for each call, tests with their numbers in 01's order.
use Rattle.std.specs.Prelude.{◌≡◌, ℕ, Bool, false, cond, not, ◌≢◌, List, [], ◌∷◌, ◌++◌, ◌==◌}
use Rattle.std.proofs.Math.Bool.{So}
use Rattle.soda.specs.Lists.{all}
use Rattle.policy.specs.Codes.{ACCEPTED}

abbrev pub Refusals : Type 0
Refusals = List (Bool × ℕ)

-- a refusal: when it applies, and its number
infixl 20 ◌gives◌
abbrev pub ◌gives◌ : Bool → ℕ → Bool × ℕ
applies gives number = (applies, number)

-- the number of the first refusal that applies; 0, acceptance, if none does
abbrev pub code : Refusals → ℕ
code [] = ACCEPTED
code (r ∷ l) = cond r.0 r.1 (code l)

-- ── what is proved of them ──
-- no number is that of acceptance
abbrev pub numbered : Refusals → Bool
numbered l = all (λ r. not (r.1 == ACCEPTED)) l

-- no refusal applies
abbrev pub Clear : Refusals → Type 0
Clear [] = Unit {0}
Clear (r ∷ l) = (r.0 ≡ false) × Clear l

-- Acceptance is given exactly where no refusal applies.
abbrev pub AcceptedIsClear : Type 0
AcceptedIsClear = (l : Refusals) → So (numbered l) → code l ≡ ACCEPTED → Clear l

abbrev pub ClearIsAccepted : Type 0
ClearIsAccepted = (l : Refusals) → Clear l → code l ≡ ACCEPTED

-- Of two lists, one behind the other, the one in front decides; if nothing in it applies, the one behind it.
abbrev pub FrontDecides : Type 0
FrontDecides = (l m : Refusals) → code l ≢ ACCEPTED → code (l ++ m) ≡ code l

abbrev pub BehindDecides : Type 0
BehindDecides = (l m : Refusals) → Clear l → code (l ++ m) ≡ code m

abbrev pub ClearFront : Type 0
ClearFront = (l m : Refusals) → Clear (l ++ m) → Clear l

abbrev pub ClearBehind : Type 0
ClearBehind = (l m : Refusals) → Clear (l ++ m) → Clear m
