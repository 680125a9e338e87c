-- Users tried one after the other behind the same actions: which of them can act (document 02, E1).
use Rattle.std.specs.Prelude.{Bool, ◌&&◌, cond, List, [], ◌∷◌, ◌++◌, map, ℕ, ◌-◌, leb, ltb, length, get_or, take}
use Rattle.soda.specs.Bits.{number}
use Rattle.soda.specs.Lists.{range}
use Rattle.soda.specs.Terms.{Term}
use Rattle.soda.specs.Tables.{possible}
use Rattle.soda.specs.declared.Action.{Action}
use Rattle.policy.specs.Words.{decode, term_of}
use Rattle.workspace.specs.Workspace.{is_filled, filled}

-- an action by user u; `met` has for each user the unit terms that the user meets
abbrev pub action_by : List ℕ → ℕ → Action
action_by met u = record { user = u; met = get_or met u 0 }

-- bit u: the actions with one more by user u are possible
unfoldable pub can_act : Term → List Action → List ℕ → ℕ
can_act φ l met = number (map (λ u. possible φ 0 (l ++ (action_by met u ∷ []))) (range 0 (length met)))

-- The trials are a helper that crates share, so they are total: one to sixteen users are tried behind fewer than twelve actions for
-- which the workspace can be filled.
abbrev pub is_tried : List ℕ → List Action → ℕ → List ℕ → List ℕ → Bool
is_tried words actions n met workspace = (ltb n 12 && (leb 1 (length met) && leb (length met) 16)) && is_filled words actions n workspace

-- the users, and the workspace, which then speaks of the last user's trial; else nobody, and it is as it was
pub record Trials : Type 0 where
  pub mask : ℕ
  pub workspace : List ℕ

unfoldable pub trials_of : List ℕ → List Action → ℕ → List ℕ → List ℕ → Trials
trials_of words actions n met workspace = cond (is_tried words actions n met workspace)
    (record {
      mask = can_act (term_of (decode words)) (take n actions) met;
      workspace = filled (term_of (decode words)) (take n actions ++ (action_by met (length met - 1) ∷ [])) workspace;
    })
    (record { mask = 0; workspace = workspace })
