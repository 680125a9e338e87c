-- The multiset test (document 01: the bag test): does a multiset of users satisfy the policy by Definition 3 of document 004?
use Rattle.std.specs.Prelude.{◌≡◌, ◌↔◌, Bool, true, false, not, cond, List, [], ◌∷◌, ◌++◌, map, ℕ, suc, ◌+◌, leb, ltb, eqb, length, get_or, drop, replicate, Result, Ok, Err}
use Rattle.std.proofs.Math.Bool.{So}
use Rattle.soda.specs.Lists.{all, ascending}
use Rattle.soda.specs.Roles.{roles}
use Rattle.soda.specs.Tables.{satisfied}
use Rattle.soda.specs.Multisets.{multiset}
use Rattle.soda.specs.declared.Action.{Action}
use Rattle.policy.specs.Codes.{MALFORMED, FULL, WORKSPACE}
use Rattle.policy.specs.Refusals.{◌gives◌, code}
use Rattle.policy.specs.Codes.{Code}
use Rattle.policy.specs.Answers.{answer_code}
use Rattle.policy.specs.declared.refusal.Refusal.{Refusal}
use Rattle.workspace.specs.Workspace.{filled}
use Rattle.configuration.specs.Configurations.{is_zero}
use Rattle.instance.specs.Instances.{noted}
use Rattle.monitor.specs.Monitors.{Opening, bare, policy, open_refusals, code_in}

-- the code of what src's `satisfies` answers, and a letter for the answer, `y` or `n`; a refusal has none
abbrev pub letter_y : ℕ
letter_y = 121

abbrev pub letter_n : ℕ
letter_n = 110

abbrev pub verdict_code : Result Bool Refusal → Code
verdict_code a = answer_code a

abbrev pub verdict_letter : Result Bool Refusal → ℕ
verdict_letter (Ok true) = letter_y
verdict_letter (Ok false) = letter_n
verdict_letter (Err r) = 0

-- how many actions in all
abbrev pub total : List ℕ → ℕ
total [] = 0
total (k ∷ l) = k + total l

-- 02, E8: "a bag's actions are numbered by ascending person". The users in that order, each as often as it occurs; the first count is that
-- of user u.
abbrev pub listed : ℕ → List ℕ → List ℕ
listed u [] = []
listed u (k ∷ l) = replicate k u ++ listed (suc u) l

-- an action by a user, by the roles that the opening gives
abbrev pub noted_by : Opening → ℕ → Action
noted_by o u = noted o.words u (roles o.rows u)

-- the multiset's actions, in the order of their numbers
abbrev pub actions_of : Opening → List ℕ → List Action
actions_of o counts = map (noted_by o) (listed 0 counts)

-- It does not know permissions and workflow: its opening is one with neither.
abbrev pub unordered : Opening → Opening
unordered o = bare o.users o.roles o.words o.rows

-- 12, the opening's order, 7, 8; n is the length of the workspace
unfoldable pub test_refusals : Opening → List ℕ → ℕ → List (Bool × ℕ)
test_refusals o counts n =
    (ltb n 8192 gives WORKSPACE)
    ∷ (open_refusals (unordered o) ++ ((not (all is_zero (drop o.users counts)) gives MALFORMED) ∷ (ltb 12 (total counts) gives FULL) ∷ []))

abbrev pub test_code : Opening → List ℕ → ℕ → ℕ
test_code o counts n = code (test_refusals o counts n)

-- the code and the letter: yes exactly when the actions satisfy the policy; their order plays no part (`TestIsMultiset` of claims)
pub record TestOutcome : Type 0 where
  pub code : Code
  pub letter : ℕ

unfoldable pub test_of : Opening → List ℕ → ℕ → TestOutcome
test_of o counts n = record {
  code = code_in o (test_code o counts n);
  letter = cond (eqb (test_code o counts n) 0) (cond (satisfied (policy o) 0 (actions_of o counts)) letter_y letter_n) 0;
}

-- What it leaves in the workspace: after yes or no the words for the multiset's actions; a refusal leaves it as it was.
unfoldable pub test_workspace : Opening → List ℕ → List ℕ → List ℕ
test_workspace o counts before = cond (eqb (test_code o counts (length before)) 0) (filled (policy o) (actions_of o counts) before) before

-- ── what is proved of it ──
-- The users are listed so: ascending, and each as often as its count says. No other list of users is; those of one user are next to
-- each other in it.
abbrev pub ListedIsAscending : Type 0
ListedIsAscending = (counts users : List ℕ) → (users ≡ listed 0 counts) ↔ (So (ascending leb users) × (multiset users ≡ (λ u. get_or counts u 0)))
