-- The next user is one of them, or is not; at the end all 16 were asked.
use Rattle.std.proofs.Common.{◌≡◌, ℕ, ◌+◌, Bool, true, false, List, [], ◌∷◌, ◌++◌, map, length, sym, ap, ◌∙◌, arith}
use lib.ListN.{length-map}
use Rattle.soda.specs.Lists.{range}
use Rattle.soda.proofs.Lists.{range_length}
use Rattle.configuration.specs.declared.Configuration.{Configuration}
use Rattle.configuration.specs.declared.Candidates.{Candidates}
use Rattle.configuration.specs.Permitted.{gathered, with_candidate, is_permitted, permitted_users}
use Rattle.configuration.proofs.Gathering.{map_more, gathered_with, gathered-without}
use Rattle.configuration.proofs.Configuration.permitted.Goals as goal
use Rattle.configuration.proofs.Configuration.permitted.Goals.{then-permits, else-permits}

-- those among the first n
abbrev those : Configuration → ℕ → Bool → ℕ → List Bool
those c a everyone n = map (is_permitted c a everyone) (range 0 n)

-- the next one
module _ (c : Configuration) (a : ℕ) (everyone : Bool) (n : ℕ) where
  next_in : (b : Bool) → is_permitted c a everyone n ≡ b → gathered (those c a everyone (n + 1)) ≡ gathered (those c a everyone n ++ (b ∷ []))
  next_in b e = ap gathered (map_more (is_permitted c a everyone) n ∙ ap (λ (x : Bool). those c a everyone n ++ (x ∷ [])) e)

  with_next : is_permitted c a everyone n ≡ true → with_candidate (gathered (those c a everyone n)) n ≡ gathered (those c a everyone (n + 1))
  with_next e =
      let long : length (those c a everyone n) ≡ n = length-map (range 0 n) (is_permitted c a everyone) ∙ range_length 0 n in
      sym (next_in true e ∙ gathered_with (those c a everyone n) ∙ ap (with_candidate (gathered (those c a everyone n))) long)

  without-next : is_permitted c a everyone n ≡ false → gathered (those c a everyone n) ≡ gathered (those c a everyone (n + 1))
  without-next e = sym (next_in false e ∙ gathered-without (those c a everyone n))

pub loop-user-preserved : goal.loop-user-preserved
loop-user-preserved c =
    let a = c.args in
    let n = c.loop-user.user in
    elim c.if-permits.branch [
      | then-permits w ↦ w.found-is ∙ w.with-found.ensures ∙ ap (λ (k : Candidates). with_candidate k n) c.loop-user.invariant
          ∙ with_next a.self a.action a.everyone n (sym c.permits.ensures ∙ w.if-permits.true)
      | else-permits w ↦ w.found-is ∙ c.loop-user.invariant
          ∙ without-next a.self a.action a.everyone n (sym c.permits.ensures ∙ w.if-permits.false)
    ]

pub returns : goal.returns
unfolding permitted_users
returns c =
    let a = c.args in
    let l = c.loop-user in
    let e : l.user ≡ 16 = omega arith in
    l.invariant ∙ ap (λ (n : ℕ). gathered (those a.self a.action a.everyone n)) e
