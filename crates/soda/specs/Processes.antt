-- The enforcement processes of terms (document 004, section 5.3, Definitions 7 and 8), the processes of a workflow and of the configuration
-- (sections 3.1 and 3.2), and the three together.
use Rattle.std.specs.Prelude.{◌≡◌, Bool, true, false, ◌&&◌, ◌||◌, cond, List, [], ◌∷◌, ◌++◌, map, ℕ, ltb, length, get_or}
use Rattle.soda.specs.Bits.{bit}
use Rattle.soda.specs.Terms.{Op, either, both, together, apart, Term, everyone, role, set, ¬ᵗ◌, ◌⁺, bin, unit}
use Rattle.soda.specs.Roles.{UA, roles, PA, authorized, meets}
use Rattle.soda.specs.Traces.{Event, business, add_ua, rm_ua, admin, after, Trace}
use Rattle.soda.specs.Workflows.{Transitions, no_transition, leaves}
use Rattle.soda.specs.Csp.{Process, stop, prefix, choice, some, parallel, call}

-- Σ = E_B ∪ E_A ∪ {done}
pub data Symbol : Type 0 where
  event : Event → Symbol
  done : Symbol

-- a set of users, by its test
abbrev pub Users : Type 0
Users = ℕ → Bool

-- Process identifiers: FIN, and for a unit term φ [[φ]] (`once`) and [[φ⁺]] (`repeat`) for the users U and the assignment UA; RBAC(UA, PA);
-- and a workflow with these transitions and final states in a state.
pub data Name : Type 0 where
  fin : Name
  once repeat : Term → Users → UA → Name
  rbac : PA → UA → Name
  work : Transitions → ℕ → ℕ → Name

abbrev pub P : Type 1
P = Process Symbol Name

-- the sets of events that FIN and rules 1 and 2 wait for
abbrev pub is_done : Symbol → Bool
is_done (event s) = false
is_done done = true

abbrev pub is_admin : Symbol → Bool
is_admin (event s) = admin s
is_admin done = false

abbrev pub is_add_ua : Symbol → Bool
is_add_ua (event (business u a)) = false
is_add_ua (event (add_ua u r)) = true
is_add_ua (event (rm_ua u r)) = false
is_add_ua done = false

abbrev pub is_rm_ua : Symbol → Bool
is_rm_ua (event (business u a)) = false
is_rm_ua (event (add_ua u r)) = false
is_rm_ua (event (rm_ua u r)) = true
is_rm_ua done = false

-- bc?u : {u' ∈ U | {u'} satisfies φ}.a : A
abbrev pub is_met : Term → Users → UA → Symbol → Bool
is_met φ U ua (event (business u a)) = U u && meets φ u (roles ua u)
is_met φ U ua (event (add_ua u r)) = false
is_met φ U ua (event (rm_ua u r)) = false
is_met φ U ua done = false

-- E_B
abbrev pub is_business : Symbol → Bool
is_business (event (business u a)) = true
is_business (event (add_ua u r)) = false
is_business (event (rm_ua u r)) = false
is_business done = false

-- bc?(u.a) : {u.a | ∃ r. (u, r) ∈ UA ∧ (r, a) ∈ PA}
abbrev pub is_authorized : PA → UA → Symbol → Bool
is_authorized pa ua (event (business u a)) = authorized pa (roles ua u) a
is_authorized pa ua (event (add_ua u r)) = false
is_authorized pa ua (event (rm_ua u r)) = false
is_authorized pa ua done = false

-- bc?u : U.a, the action of the transition at place k, if it leaves state s
abbrev pub takes : Transitions → ℕ → ℕ → Symbol → Bool
takes ts s k (event (business u a)) = ltb k (length ts) && leaves s a (get_or ts k no_transition)
takes ts s k (event (add_ua u r)) = false
takes ts s k (event (rm_ua u r)) = false
takes ts s k done = false

-- done, in a final state
abbrev pub ends : ℕ → ℕ → Symbol → Bool
ends finals s (event e) = false
ends finals s done = bit s finals

-- UA after the event
abbrev pub changed : UA → Symbol → UA
changed ua (event s) = after ua s
changed ua done = ua

-- {done} ∪ E_A
abbrev pub sync : Symbol → Bool
sync e = is_done e || is_admin e

-- What rules 1 and 2 of Definition 7 and RBAC share: p, or an admin event, and then the same process for the new UA.
abbrev pub administered : UA → (UA → Name) → P → P
administered ua n p = choice p (choice (prefix is_add_ua (λ e. call (n (changed ua e)))) (prefix is_rm_ua (λ e. call (n (changed ua e)))))

-- an action by a user of U who meets φ, and then p; or an admin event
abbrev pub waiting : Term → Users → UA → (UA → Name) → P → P
waiting φ U ua n p = administered ua n (prefix (is_met φ U ua) (λ e. p))

-- FIN, rule 1 and rule 2; RBAC of section 3.2; a workflow in a state: one of the transitions that leave it and then the next state, or done,
-- then STOP
abbrev pub body : Name → P
body fin = choice (prefix is_done (λ e. stop)) (prefix is_admin (λ e. call fin))
body (once φ U ua) = waiting φ U ua (once φ U) (call fin)
body (repeat φ U ua) = waiting φ U ua (repeat φ U) (choice (call fin) (call (repeat φ U ua)))
body (rbac pa ua) = administered ua (rbac pa) (prefix (is_authorized pa ua) (λ e. call (rbac pa ua)))
body (work ts finals s) =
    choice (some ℕ (λ k. prefix (takes ts s k) (λ e. call (work ts finals (get_or ts k no_transition).next))))
    (prefix (ends finals s) (λ e. stop))

-- two sets of users that make up U and share nobody; either may be empty
pub record Parts (U : Users) : Type 0 where
  pub one : Users
  pub two : Users
  pub cover : (u : ℕ) → (one u || two u) ≡ U u
  pub apart : (u : ℕ) → (one u && two u) ≡ false

-- Rules 3 to 6 of Definition 7, from the processes of the two sides. In rule 4, damaged in the paper's text, both sides take
-- part in every event.
abbrev pub compose : Op → (Users → P) → (Users → P) → Users → P
compose either p q U = choice (p U) (q U)
compose both p q U = parallel (λ e. true) (p U) (q U)
compose together p q U = parallel sync (p U) (q U)
compose apart p q U = some (Parts U) (λ s. parallel sync (p s.one) (q s.two))

-- Definition 7, where rule 1 goes before rules 3 and 4.
unfoldable pub process : Term → UA → Users → P
process everyone ua U = call (once everyone U ua)
process (role r) ua U = call (once (role r) U ua)
process (set m) ua U = call (once (set m) U ua)
process (¬ᵗ φ) ua U = call (once (¬ᵗ φ) U ua)
process (φ ⁺) ua U = call (repeat φ U ua)
process (bin op φ ψ) ua U = cond (unit (bin op φ ψ)) (call (once (bin op φ ψ) U ua)) (compose op (process φ ua) (process ψ ua) U)

-- Definition 7 read the other way: every either and both goes by rules 3 and 4, inside a unit term too. By the statement
-- `Readings` of Accuracy the traces are the same.
unfoldable pub composed : Term → UA → Users → P
composed everyone ua U = call (once everyone U ua)
composed (role r) ua U = call (once (role r) U ua)
composed (set m) ua U = call (once (set m) U ua)
composed (¬ᵗ φ) ua U = call (once (¬ᵗ φ) U ua)
composed (φ ⁺) ua U = call (repeat φ U ua)
composed (bin op φ ψ) ua U = compose op (composed φ ua) (composed ψ ua) U

-- Definition 8: the enforcement process of φ over the users numbered below n
abbrev pub SOD : Term → ℕ → UA → P
SOD φ n ua = process φ ua (λ u. ltb u n)

-- ── the three processes together (section 5.3) ──
-- W, which starts in state 0; RBAC(UA, PA); SW(UA, PA), both synchronised on the business events; and SSW(UA, PA), with the enforcement
-- process, synchronised on every event
abbrev pub W : Transitions → ℕ → P
W ts finals = call (work ts finals 0)

abbrev pub RBAC : UA → PA → P
RBAC ua pa = call (rbac pa ua)

abbrev pub SW : Transitions → ℕ → UA → PA → P
SW ts finals ua pa = parallel is_business (W ts finals) (RBAC ua pa)

abbrev pub SSW : Term → ℕ → Transitions → ℕ → UA → PA → P
SSW φ n ts finals ua pa = parallel (λ e. true) (SW ts finals ua pa) (SOD φ n ua)

-- the parts of a trace: a workflow knows no admin events, RBAC no done
abbrev pub without_admin : List Symbol → List Symbol
without_admin [] = []
without_admin (e ∷ l) = cond (is_admin e) (without_admin l) (e ∷ without_admin l)

abbrev pub without_done : List Symbol → List Symbol
without_done [] = []
without_done (e ∷ l) = cond (is_done e) (without_done l) (e ∷ without_done l)

-- t, and t followed by done
abbrev pub unfinished : Trace → List Symbol
unfinished t = map event t

abbrev pub finished : Trace → List Symbol
finished t = map event t ++ (done ∷ [])
