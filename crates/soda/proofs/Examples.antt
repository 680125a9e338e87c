-- The definitions run: document 01's four mistakes that tempt, each by a case that the mistake gets wrong, the readings of not that document
-- 02's E3 rules out, the last action of a permission sheet, and document 004's example of a synchronised interleaving. Document 01's settled
-- examples are claimed of the calls, in the crate `claims`.
use mathlib.Core.Path.{refl}
use mathlib.Core.Bool.{Bool, true, false, So, not, beq, ◌&&◌}
use mathlib.Core.List.{List, [], ◌∷◌, ◌++◌}
use Prim.Native.Nat.{ℕ, ◌+◌, ◌^◌}
use Rattle.soda.specs.Bits.{set_bit, clear_bit}
use Rattle.soda.specs.Lists.{all}
use Rattle.soda.specs.Terms.{Term, everyone, role, set, ¬ᵗ◌, ◌⊓ᵗ◌, ◌⊙◌, ◌⊗◌, well_formed}
use Rattle.soda.specs.Roles.{UA, authorized}
use Rattle.soda.specs.Tables.{table, satisfied, possible}
use Rattle.soda.specs.Traces.{Event, Trace, business, add_ua, rm_ua, noted, Si, si_nil, si_both, si_left, si_right}

-- a policy, grants and a trace, with what is expected of the taken actions
record Case : Type 0 where
  policy : Term
  grants : UA
  trace : Trace
  is_possible : Bool
  is_satisfied : Bool

abbrev holds : Case → Bool
holds c =
    well_formed c.policy
    && (beq (possible c.policy 0 (noted c.policy c.grants c.trace)) c.is_possible
    && beq (satisfied c.policy 0 (noted c.policy c.grants c.trace)) c.is_satisfied)

abbrev row : Term → UA → Trace → Bool → Bool → Case
row φ ua t p s = record { policy = φ; grants = ua; trace = t; is_possible = p; is_satisfied = s }

abbrev by : ℕ → Trace
by u = business u 0 ∷ []

abbrev cases : List Case
cases =
    -- old actions judged by today's grants: user 0 acts with role 0, loses it, and acts again with role 1
    row (role 0 ⊙ (¬ᵗ (role 0))) (3 ∷ []) (by 0 ++ (rm_ua 0 0 ∷ []) ++ by 0) true true
    -- each action given greedily to the first open side: user 0 holds both roles, user 1 holds role 0 alone
    ∷ row (role 0 ⊙ role 1) (3 ∷ 1 ∷ []) (by 0 ++ by 1) true true
    -- apart comparing places instead of users: one user acts twice
    ∷ row (everyone ⊗ everyone) (1 ∷ 1 ∷ []) (by 0 ++ by 0) false false
    ∷ row (everyone ⊗ everyone) (1 ∷ 1 ∷ []) (by 0 ++ by 1) true true
    -- "possible" taken for "can still be met": user 0's action is taken, although nothing can follow it
    ∷ row ((set 1 ⊙ set 2) ⊓ᵗ (set 1 ⊙ set 4)) (1 ∷ 1 ∷ 1 ∷ []) (by 0) true false
    ∷ row ((set 1 ⊙ set 2) ⊓ᵗ (set 1 ⊙ set 4)) (1 ∷ 1 ∷ 1 ∷ []) (by 0 ++ by 1) false false
    ∷ row ((set 1 ⊙ set 2) ⊓ᵗ (set 1 ⊙ set 4)) (1 ∷ 1 ∷ 1 ∷ []) (by 0 ++ by 2) false false
    -- not met without a role (the paper's rule 4): user 0 has left, named by the set or not
    ∷ row (¬ᵗ (set 1)) (1 ∷ []) ((rm_ua 0 0 ∷ []) ++ by 0) false false
    ∷ row (¬ᵗ (set 2)) (1 ∷ []) ((rm_ua 0 0 ∷ []) ++ by 0) false false
    -- not by the roles at the start: user 0 gets one, and meets it then
    ∷ row (¬ᵗ (role 0)) (0 ∷ []) (by 0) false false
    ∷ row (¬ᵗ (role 0)) (0 ∷ []) ((add_ua 0 1 ∷ []) ++ by 0) true true
    -- not by a role that the inner term names: this one names none
    ∷ row (¬ᵗ (set 2)) (1 ∷ []) (by 0) true true
    -- not twice, met by whoever holds a role and meets the inner term
    ∷ row (¬ᵗ (¬ᵗ everyone)) (1 ∷ 0 ∷ []) (by 0) true true
    ∷ row (¬ᵗ (¬ᵗ everyone)) (1 ∷ 0 ∷ []) (by 1) false false
    ∷ []

pub tempting_mistakes : So (all holds cases)
unfolding table set_bit clear_bit
tempting_mistakes = refl

-- actions are numbered 0 to 63: a sheet gives no other, whatever its row has
pub last-action : So (authorized ((2 ^ 63 + 2 ^ 64) ∷ []) 1 63 && not (authorized ((2 ^ 63 + 2 ^ 64) ∷ []) 1 64))
last-action = refl

-- the example under Definition 5: bᵢ is `business i 0`, aᵢ is `add_ua i 0`
abbrev b : ℕ → Event
b i = business i 0

abbrev a : ℕ → Event
a i = add_ua i 0

pub interleaving : Si
    (b 1 ∷ b 2 ∷ b 3 ∷ a 1 ∷ b 4 ∷ b 4 ∷ a 2 ∷ b 5 ∷ a 3 ∷ b 6 ∷ a 4 ∷ [])
    (b 1 ∷ b 3 ∷ a 1 ∷ b 4 ∷ a 2 ∷ a 3 ∷ b 6 ∷ a 4 ∷ [])
    (b 2 ∷ a 1 ∷ b 4 ∷ a 2 ∷ b 5 ∷ a 3 ∷ a 4 ∷ [])
interleaving =
    si_left refl (si_right refl (si_left refl (si_both refl (si_left refl (si_right refl
    (si_both refl (si_right refl (si_both refl (si_left refl (si_both refl si_nil))))))))))
