-- The first refusal that applies.
use Rattle.std.proofs.Common.{ℕ, true, false, not, eqb, [], ◌∷◌, refl, subst}
use mathlib.Core.Bool.{So}
use Rattle.soda.proofs.Bools.{never, and_split}
use Rattle.policy.specs.Refusals.{numbered, AcceptedIsClear, ClearIsAccepted, FrontDecides, BehindDecides, ClearFront, ClearBehind}

pub clear : AcceptedIsClear
clear [] z e = tt
clear ((true, n) ∷ l) z e = never (subst (λ (k : ℕ). So (not (eqb k 0))) e (and_split (not (eqb n 0)) (numbered l) z).0)
clear ((false, n) ∷ l) z e = (refl, clear l (and_split (not (eqb n 0)) (numbered l) z).1 e)

pub clear_code : ClearIsAccepted
clear_code [] h = refl
clear_code (r ∷ l) h = rw h.0 (clear_code l h.1)

pub code_front : FrontDecides
code_front [] m ne = absurd (ne refl)
code_front ((true, n) ∷ l) m ne = refl
code_front ((false, n) ∷ l) m ne = code_front l m ne

pub code-behind : BehindDecides
code-behind [] m h = refl
code-behind (r ∷ l) m h = rw h.0 (code-behind l m h.1)

pub clear_front : ClearFront
clear_front [] m h = tt
clear_front (r ∷ l) m h = (h.0, clear_front l m h.1)

pub clear_behind : ClearBehind
clear_behind [] m h = h
clear_behind (r ∷ l) m h = clear_behind l m h.1
