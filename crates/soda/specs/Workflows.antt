-- Workflows (document 004, section 3.1; document 02: work plans): the order in which actions may be executed, as an automaton. Its states are
-- numbers, and it starts in state 0.
use Rattle.std.specs.Prelude.{Bool, true, false, not, ◌&&◌, cond, List, [], ◌∷◌, ℕ, eqb, Option, Some, None}
use Rattle.soda.specs.Bits.{bit}
use Rattle.soda.specs.Lists.{any}
use Rattle.soda.specs.Roles.{UA, roles, grant, revoke, PA, authorized}
use Rattle.soda.specs.Traces.{business, add_ua, rm_ua, Trace}
use Rattle.soda.specs.declared.Transition.{Transition}

abbrev pub Transitions : Type 0
Transitions = List Transition

-- all zero
abbrev pub no_transition : Transition
no_transition = record { state = 0; action = 0; next = 0 }

-- a transition that action a takes in state s
abbrev pub leaves : ℕ → ℕ → Transition → Bool
leaves s a x = eqb x.state s && eqb x.action a

-- no two have the same state and action
abbrev pub deterministic : Transitions → Bool
deterministic [] = true
deterministic (x ∷ l) = not (any (leaves x.state x.action) l) && deterministic l

-- where action a leads from state s
abbrev pub successor : Transitions → ℕ → ℕ → Option ℕ
successor [] s a = None
successor (x ∷ l) s a = cond (leaves s a x) (Some x.next) (successor l s a)

-- ── a trace of actions, grants and revocations ──
abbrev pub follow : Option ℕ → (ℕ → Option ℕ) → Option ℕ
follow (Some s) f = f s
follow None f = None

-- where its actions lead from state s, one after the other
abbrev pub reached : Transitions → ℕ → Trace → Option ℕ
reached ts s [] = Some s
reached ts s (business u a ∷ t) = follow (successor ts s a) (λ n. reached ts n t)
reached ts s (add_ua u r ∷ t) = reached ts s t
reached ts s (rm_ua u r ∷ t) = reached ts s t

-- they lead to a state ..
abbrev pub is_somewhere : Option ℕ → Bool
is_somewhere (Some s) = true
is_somewhere None = false

-- .. to one of the final states, bit s for state s
abbrev pub is_final : ℕ → Option ℕ → Bool
is_final finals (Some s) = bit s finals
is_final finals None = false

-- each of its actions is by a user who is authorized by the roles held then
abbrev pub authorized_all : PA → UA → Trace → Bool
authorized_all pa ua [] = true
authorized_all pa ua (business u a ∷ t) = authorized pa (roles ua u) a && authorized_all pa ua t
authorized_all pa ua (add_ua u r ∷ t) = authorized_all pa (grant ua u r) t
authorized_all pa ua (rm_ua u r ∷ t) = authorized_all pa (revoke ua u r) t
