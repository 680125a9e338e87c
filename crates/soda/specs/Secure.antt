-- What is proved of the three processes together: an action is taken exactly when all three take it. Statements only.
use Rattle.std.specs.Prelude.{◌≡◌, ◌↔◌, List, [], ◌∷◌, ◌++◌, ℕ, replicate}
use Rattle.std.proofs.Math.Bool.{So}
use Rattle.soda.specs.Terms.{Term}
use Rattle.soda.specs.Roles.{UA, assigned, roles, PA, permitted, authorized}
use Rattle.soda.specs.Traces.{business, Trace}
use Rattle.soda.specs.Workflows.{Transitions, deterministic, reached, is_somewhere, is_final, authorized_all}
use Rattle.soda.specs.Csp.{Accepts, call}
use Rattle.soda.specs.Processes.{Symbol, event, work, body, SOD, W, RBAC, SSW, without_admin, without_done, unfinished, finished}

-- SSW has a trace exactly when W, RBAC and SOD each have their part of it.
abbrev pub SecureIsAllThree : Type 1
SecureIsAllThree =
    (φ : Term) (n : ℕ) (ts : Transitions) (finals : ℕ) (ua : UA) (pa : PA) (l : List Symbol)
    → Accepts body (SSW φ n ts finals ua pa) l
    ↔ (Accepts body (W ts finals) (without_admin l) × Accepts body (RBAC ua pa) (without_done l) × Accepts body (SOD φ n ua) l)

-- So an action is taken exactly when all three take it.
abbrev pub ActionIsTakenByAll : Type 1
ActionIsTakenByAll =
    (φ : Term) (n : ℕ) (ts : Transitions) (finals : ℕ) (ua : UA) (pa : PA) (l : List Symbol) (u a : ℕ)
    → Accepts body (SSW φ n ts finals ua pa) (l ++ (event (business u a) ∷ []))
    ↔ (Accepts body (W ts finals) (without_admin l ++ (event (business u a) ∷ []))
    × Accepts body (RBAC ua pa) (without_done l ++ (event (business u a) ∷ []))
    × Accepts body (SOD φ n ua) (l ++ (event (business u a) ∷ [])))

-- RBAC has its part of a trace, finished or not, exactly when each action is by a user who is authorized then.
abbrev pub RbacIsAuthorized : Type 1
RbacIsAuthorized =
    (ua : UA) (pa : PA) (t : Trace)
    → (Accepts body (RBAC ua pa) (without_done (unfinished t)) ↔ So (authorized_all pa ua t))
    × (Accepts body (RBAC ua pa) (without_done (finished t)) ↔ So (authorized_all pa ua t))

-- A workflow in which no two transitions have the same state and action, in state s, has its part of a trace exactly when the actions lead
-- somewhere, and with done behind it exactly when they lead to a final state.
abbrev pub WorkflowIsReached : Type 1
WorkflowIsReached =
    (ts : Transitions) (finals s : ℕ) → So (deterministic ts) → (t : Trace)
    → (Accepts body (call (work ts finals s)) (without_admin (unfinished t)) ↔ So (is_somewhere (reached ts s t)))
    × (Accepts body (call (work ts finals s)) (without_admin (finished t)) ↔ So (is_final finals (reached ts s t)))

-- Authorized is ∃ r. (u, r) ∈ UA ∧ (r, a) ∈ PA (Definition 1).
abbrev pub AuthorizedIsSomeRole : Type 0
AuthorizedIsSomeRole =
    (ua : UA) (pa : PA) (u a : ℕ)
    → So (authorized pa (roles ua u) a) ↔ ((r : ℕ) × So (assigned ua u r) × So (permitted pa r a))

-- Roles that give nothing authorize nobody: rows of zeros behind PA play no part.
abbrev pub ZeroRowsGiveNothing : Type 0
ZeroRowsGiveNothing = (pa : PA) (k h a : ℕ) → authorized (pa ++ replicate k 0) h a ≡ authorized pa h a
