-- Document 004's running example, the payment workflow: Examples 1, 2 and 7 computed, and what the processes W, SW and SSW say of them. The
-- paper's Figures 1 and 2 are lost, so the workflow and the configuration are as its sentences have them.
use mathlib.Core.Path.{refl}
use mathlib.Core.Bool.{Bool, true, false, So, beq, ◌&&◌}
use mathlib.Core.List.{List, [], ◌∷◌}
use Prim.Native.Nat.{ℕ}
use Rattle.soda.specs.Bits.{set_bit}
use Rattle.soda.specs.Lists.{all}
use Rattle.soda.specs.Terms.{Term, everyone, role, ◌⁺, ◌⊔ᵗ◌, ◌⊙◌, ◌⊗◌}
use Rattle.soda.specs.Roles.{UA, PA}
use Rattle.soda.specs.Tables.{table, satisfied, possible}
use Rattle.soda.specs.Traces.{Event, Trace, business, add_ua, noted}
use Rattle.soda.specs.Workflows.{Transitions, reached, is_somewhere, is_final, authorized_all}
use Rattle.soda.specs.declared.Transition.{Transition}
use Rattle.soda.specs.Csp.{Accepts}
use Rattle.soda.specs.Processes.{body, W, SW, SSW, finished}
use Rattle.soda.proofs.Bools.{never}
use Rattle.soda.proofs.Accuracy.{satisfied-is_trace, theorem_1}
use Rattle.soda.proofs.Secure.{workflow-is-reached, rbac-is-authorized, secure-workflow-is-both, secure-is-all_three}

-- users: Alice is 0, Bob 1, Claire 2
abbrev alice : ℕ → Event
alice a = business 0 a

abbrev bob : ℕ → Event
bob a = business 1 a

abbrev claire : ℕ → Event
claire a = business 2 a

-- actions
abbrev receive : ℕ
receive = 1

abbrev prepare : ℕ
prepare = 2

abbrev approve : ℕ
approve = 3

abbrev issue : ℕ
issue = 4

abbrev reject : ℕ
reject = 5

-- roles: Accountant is 0, Clerk 1, Manager 2
abbrev make_manager : ℕ → Event
make_manager u = add_ua u 2

-- Alice is a Clerk, Bob an Accountant, Claire holds no role
abbrev ua : UA
ua = 2 ∷ 1 ∷ 0 ∷ []

-- an Accountant may prepare, a Clerk receive and issue, a Manager approve and reject
abbrev pa : PA
pa = 4 ∷ 18 ∷ 40 ∷ []

abbrev arrow : ℕ → ℕ → ℕ → Transition
arrow s a n = record { state = s; action = a; next = n }

-- Approved once and approved for good are one state, as section 5.4 allows: the paper's workflow may choose between them.
abbrev payment : Transitions
payment =
    arrow 0 receive 1 ∷ arrow 1 prepare 2 ∷ arrow 2 approve 3 ∷ arrow 2 reject 1 ∷ arrow 3 approve 3 ∷ arrow 3 reject 1 ∷ arrow 3 issue 4 ∷ []

-- state 4
abbrev finals : ℕ
finals = 16

-- Example 3
abbrev φ : Term
φ = (role 0 ⊗ (role 2 ⊔ᵗ (role 0 ⊗ role 0))) ⊙ (everyone ⁺)

-- Examples 2 and 7, without done: t, t' and t''
abbrev bob_approves : Trace
bob_approves = alice receive ∷ bob prepare ∷ bob approve ∷ alice issue ∷ []

abbrev bob_approves_as_manager : Trace
bob_approves_as_manager = alice receive ∷ bob prepare ∷ make_manager 1 ∷ bob approve ∷ alice issue ∷ []

abbrev claire_approves : Trace
claire_approves = alice receive ∷ bob prepare ∷ make_manager 1 ∷ make_manager 2 ∷ claire approve ∷ alice issue ∷ []

-- what is expected of a trace: W has it, W has it finished, RBAC has it, the enforcement process has it, and has it finished
record Case : Type 0 where
  trace : Trace
  is_run : Bool
  is_finished : Bool
  is_authorized : Bool
  is_possible : Bool
  is_satisfied : Bool

abbrev holds : Case → Bool
holds c =
    beq (is_somewhere (reached payment 0 c.trace)) c.is_run
    && (beq (is_final finals (reached payment 0 c.trace)) c.is_finished
    && (beq (authorized_all pa ua c.trace) c.is_authorized
    && (beq (possible φ 0 (noted φ ua c.trace)) c.is_possible
    && beq (satisfied φ 0 (noted φ ua c.trace)) c.is_satisfied)))

abbrev row : Trace → Bool → Bool → Bool → Bool → Bool → Case
row t w f r p s = record { trace = t; is_run = w; is_finished = f; is_authorized = r; is_possible = p; is_satisfied = s }

abbrev cases : List Case
cases =
    -- Example 1: received, prepared, rejected and prepared anew, approved twice, issued; who acts is not asked
    row (alice receive ∷ alice prepare ∷ alice reject ∷ alice prepare ∷ alice approve ∷ alice approve ∷ alice issue ∷ []) true true false true false
    -- .. not prepared
    ∷ row (alice receive ∷ alice approve ∷ []) false false false true false
    -- .. rejected, and not prepared anew
    ∷ row (alice receive ∷ alice prepare ∷ alice reject ∷ alice issue ∷ []) false false false true false
    -- .. not issued yet
    ∷ row (alice receive ∷ bob prepare ∷ []) true false true true false
    -- Example 2, t: nobody is authorized to approve
    ∷ row bob_approves true true false true false
    -- Example 2, t': Bob is, as a Manager; under φ all may have acted for All⁺, so only done is refused
    ∷ row bob_approves_as_manager true true true true false
    -- Example 7, t''
    ∷ row claire_approves true true true true true
    ∷ []

pub payment_runs : So (all holds cases)
unfolding table set_bit
payment_runs = refl

-- ── the processes ──
-- Example 2: t is a run of W, and not of SW; t' is one of SW
pub workflow_has_t : Accepts body (W payment finals) (finished bob_approves)
workflow_has_t = (workflow-is-reached payment finals 0 refl bob_approves).1.1 refl

pub secure-workflow_lacks_t : Accepts body (SW payment finals ua pa) (finished bob_approves) → ⊥
secure-workflow_lacks_t h =
    never ((rbac-is-authorized ua pa bob_approves).1.0 ((secure-workflow-is-both payment finals ua pa (finished bob_approves)).0 h).1)

pub secure-workflow_has_t' : Accepts body (SW payment finals ua pa) (finished bob_approves_as_manager)
unfolding set_bit
secure-workflow_has_t' = (secure-workflow-is-both payment finals ua pa (finished bob_approves_as_manager)).1 (
  (workflow-is-reached payment finals 0 refl bob_approves_as_manager).1.1 refl,
  (rbac-is-authorized ua pa bob_approves_as_manager).1.1 refl,
)

-- Example 7: t' is no run of SSW, and t'' is one
pub secure_lacks_t' : Accepts body (SSW φ 3 payment finals ua pa) (finished bob_approves_as_manager) → ⊥
unfolding table set_bit
secure_lacks_t' h = never ((satisfied-is_trace φ refl ua bob_approves_as_manager).1
    ((theorem_1 φ refl 3 ua bob_approves_as_manager refl).0 ((secure-is-all_three φ 3 payment finals ua pa (finished bob_approves_as_manager)).0 h).2))

pub secure_has_t'' : Accepts body (SSW φ 3 payment finals ua pa) (finished claire_approves)
unfolding table set_bit
secure_has_t'' = (secure-is-all_three φ 3 payment finals ua pa (finished claire_approves)).1 (
  (workflow-is-reached payment finals 0 refl claire_approves).1.1 refl,
  (rbac-is-authorized ua pa claire_approves).1.1 refl,
  (theorem_1 φ refl 3 ua claire_approves refl).1 ((satisfied-is_trace φ refl ua claire_approves).0 refl),
)
