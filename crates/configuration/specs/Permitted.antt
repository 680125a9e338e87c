-- The users who may act as far as permissions go, as a set (document 02, E4).
use Rattle.std.specs.Prelude.{Bool, ◌&&◌, ◌||◌, cond, List, [], ◌∷◌, map, ℕ, suc, ◌+◌, ltb, eqb}
use Rattle.soda.specs.Bits.{number, set_bit}
use Rattle.soda.specs.Lists.{range}
use Rattle.soda.specs.Roles.{authorized}
use Rattle.configuration.specs.declared.Configuration.{Configuration}
use Rattle.configuration.specs.declared.Candidates.{Candidates}
use Rattle.configuration.specs.Configurations.{held}

-- the place behind the last that is so; 0 if none is
abbrev pub behind_last : List Bool → ℕ
behind_last [] = 0
behind_last (b ∷ l) = cond (eqb (behind_last l) 0) (cond b 1 0) (suc (behind_last l))

-- as a set, bit u for user u, and the place behind the last of them
abbrev pub gathered : List Bool → Candidates
gathered l = record { users = number l; behind = behind_last l }

abbrev pub no_candidates : Candidates
no_candidates = record { users = 0; behind = 0 }

abbrev pub with_candidate : Candidates → ℕ → Candidates
with_candidate k u = record { users = set_bit u k.users; behind = u + 1 }

-- the declared users who hold a role that gives the action, or all of them; there are at most 16
abbrev pub is_permitted : Configuration → ℕ → Bool → ℕ → Bool
is_permitted c a everyone u = ltb u c.users && (everyone || authorized c.permissions (held c u) a)

unfoldable pub permitted_users : Configuration → ℕ → Bool → Candidates
permitted_users c a everyone = gathered (map (is_permitted c a everyone) (range 0 16))
