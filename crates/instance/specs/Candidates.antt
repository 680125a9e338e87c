-- The users for whose action permissions and workflow have no refusal (document 02, E4: "whose trial gets neither 16 nor 17").
use Rattle.std.specs.Prelude.{Bool, ◌&&◌, map, ℕ, ltb}
use Rattle.soda.specs.Lists.{range}
use Rattle.soda.specs.Workflows.{is_somewhere}
use Rattle.configuration.specs.declared.Configuration.{Configuration}
use Rattle.configuration.specs.declared.Candidates.{Candidates}
use Rattle.configuration.specs.Permitted.{gathered}
use Rattle.instance.specs.declared.Instance.{Instance}
use Rattle.instance.specs.Steps.{is_authorized, leads_to}

-- a declared user's action gets neither 16 nor 17
abbrev pub is_candidate : Configuration → Instance → ℕ → ℕ → Bool
is_candidate c i a u = is_somewhere (leads_to i a) && (ltb u c.users && is_authorized c i u a)

unfoldable pub candidates_of : Configuration → Instance → ℕ → Candidates
candidates_of c i a = gathered (map (is_candidate c i a) (range 0 16))
