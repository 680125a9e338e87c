-- What is proved of the algebra: document 01's table says what Definitions 3, 6 and 7 of document 004 say, with rule 4 of Definition 3 as
-- document 02's E3 replaces it (`Rule4`). Statements only.
use Rattle.std.specs.Prelude.{◌≡◌, ◌↔◌, Bool, true, false, not, ◌&&◌, ◌||◌, ℕ, ◌<◌, eqb, length}
use Rattle.std.proofs.Math.Bool.{So}
use mathlib.Core.List.{List, [], ◌∷◌, ◌++◌, map, Perm}
use Rattle.soda.specs.Lists.{Split}
use Rattle.soda.specs.Terms.{Term, ¬ᵗ◌, unit, well_formed}
use Rattle.soda.specs.Roles.{UA, assigned, grant, revoke, roles, holds_role, meets}
use Rattle.soda.specs.Tables.{Execution, table, satisfied, possible, judge, note}
use Rattle.soda.specs.Multisets.{singleton, multiset, SatM}
use Rattle.soda.specs.Traces.{Trace, business_only, users, acted_below, execution, noted, SatT}
use Rattle.soda.specs.Csp.{Accepts}
use Rattle.soda.specs.Processes.{Symbol, Users, body, process, composed, SOD, unfinished, finished}

-- T1. The actions that a run takes, with what it notes of them, are possible exactly when the enforcement process has the trace.
abbrev pub PossibleIsProcess : Type 1
PossibleIsProcess =
    (φ : Term) → So (well_formed φ) → (n : ℕ) (ua : UA) (t : Trace) → So (acted_below n t)
    → So (possible φ 0 (noted φ ua t)) ↔ Accepts body (SOD φ n ua) (unfinished t)

-- T2. They satisfy the term exactly when the trace does by Definition 6.
abbrev pub SatisfiedIsTrace : Type 0
SatisfiedIsTrace =
    (φ : Term) → So (well_formed φ) → (ua : UA) (t : Trace)
    → So (satisfied φ 0 (noted φ ua t)) ↔ SatT ua t φ

-- T3. With no grant or revocation, exactly when the multiset of the trace's users does by Definition 3 ..
abbrev pub SatisfiedIsMultiset : Type 0
SatisfiedIsMultiset =
    (φ : Term) → So (well_formed φ) → (ua : UA) (t : Trace) → So (business_only t)
    → So (satisfied φ 0 (noted φ ua t)) ↔ SatM ua (users t) φ

-- .. and the same for any list of users, in whatever order.
abbrev pub SatisfiedIsUsers : Type 0
SatisfiedIsUsers =
    (φ : Term) → So (well_formed φ) → (ua : UA) (s : List ℕ)
    → So (satisfied φ 0 (map (λ u. note φ (execution ua u)) s)) ↔ SatM ua (multiset s) φ

-- T4, the paper's Theorem 1: the process has the trace followed by done exactly when the trace satisfies the term.
abbrev pub Theorem1 : Type 1
Theorem1 =
    (φ : Term) → So (well_formed φ) → (n : ℕ) (ua : UA) (t : Trace) → So (acted_below n t)
    → Accepts body (SOD φ n ua) (finished t) ↔ SatT ua t φ

-- Rule 4 of Definition 3 as document 02's E3 replaces it: {u} satisfies not φ exactly when u holds a role and {u} does not satisfy φ. The
-- paper has: exactly when {u} does not satisfy φ.
abbrev pub Rule4 : Type 0
Rule4 =
    (ua : UA) (u : ℕ) (φ : Term) → So (unit φ)
    → SatM ua (singleton u) (¬ᵗ φ) ↔ (((r : ℕ) × So (assigned ua u r)) × (SatM ua (singleton u) φ → ⊥))

-- For a unit term `meets` is Definition 3 at {u}.
abbrev pub MeetsIsSingleton : Type 0
MeetsIsSingleton =
    (ua : UA) (u : ℕ) (φ : Term) → So (unit φ)
    → So (meets φ u (roles ua u)) ↔ SatM ua (singleton u) φ

-- Both readings of Definition 7 give processes with the same traces, finished or not: an either or both that is a unit term goes by
-- rule 1 in one, by rules 3 and 4 in the other, at every depth. For every term, well formed or not, and every set of users.
abbrev pub Readings : Type 1
Readings =
    (φ : Term) (ua : UA) (U : Users) (t : List Symbol) → Accepts body (process φ ua U) t ↔ Accepts body (composed φ ua U) t

-- Nothing follows done in a trace of a process.
abbrev pub NothingFollowsDone : Type 1
NothingFollowsDone =
    (φ : Term) (ua : UA) (U : Users) (t : Trace) (s : Symbol) (l : List Symbol) → Accepts body (process φ ua U) (finished t ++ (s ∷ l)) → ⊥

-- Definition 4: a grant adds the pair (u, r) to UA and nothing else, a revocation removes it and nothing else.
abbrev pub GrantAddsOne : Type 0
GrantAddsOne =
    (ua : UA) (u r : ℕ) → u < length ua → (v s : ℕ)
    → assigned (grant ua u r) v s ≡ ((eqb v u && eqb s r) || assigned ua v s)

abbrev pub RevokeRemovesOne : Type 0
RevokeRemovesOne =
    (ua : UA) (u r : ℕ) → u < length ua → (v s : ℕ)
    → assigned (revoke ua u r) v s ≡ (not (eqb v u && eqb s r) && assigned ua v s)

-- "Holds some role" is ∃ r. (u, r) ∈ UA.
abbrev pub SomeRole : Type 0
SomeRole = (ua : UA) (u : ℕ) → So (holds_role (roles ua u)) ↔ ((r : ℕ) × So (assigned ua u r))

-- 01: "The empty set satisfies nothing", and it is possible for every term: e is what a column says of it. For any kind of action.
abbrev pub EmptySet : Type 1
EmptySet = (A : Type 0) (user : A → ℕ) (met : Term → ℕ → A → Bool) (e : Bool) (φ : Term) (i : ℕ) → table user met e φ i [] ≡ e

-- 01 judges sets of actions: of two lists that are reorderings of each other the table says the same, whatever is kept of an action.
abbrev pub OrderPlaysNoPart : Type 1
OrderPlaysNoPart =
    (A : Type 0) (user : A → ℕ) (met : Term → ℕ → A → Bool) (e : Bool) (φ : Term) (i : ℕ) (s t : List A) → Perm s t
    → table user met e φ i s ≡ table user met e φ i t

-- A part of a possible list of actions is possible, whatever is kept of an action.
abbrev pub PartIsPossible : Type 1
PartIsPossible =
    (A : Type 0) (user : A → ℕ) (met : Term → ℕ → A → Bool) (φ : Term) (i : ℕ) (s l r : List A) → Split s l r
    → So (table user met true φ i s) → So (table user met true φ i l)

-- What satisfies is possible.
abbrev pub SatisfiedIsPossible : Type 1
SatisfiedIsPossible =
    (A : Type 0) (user : A → ℕ) (met : Term → ℕ → A → Bool) (φ : Term) (i : ℕ) (s : List A)
    → So (table user met false φ i s) → So (table user met true φ i s)

-- The table over noted bits is the table over what the actions mean, both columns.
abbrev pub NotedIsMeant : Type 0
NotedIsMeant =
    (φ : Term) → So (well_formed φ) → (s : List Execution)
    → (satisfied φ 0 (map (note φ) s) ≡ judge false φ s) × (possible φ 0 (map (note φ) s) ≡ judge true φ s)
