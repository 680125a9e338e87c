-- Demand 2: the next answer is one of the algebra's, so its theorems speak of it.
use mathlib.Core.Path.{◌≡◌, refl, sym, ◌∙◌, ap, subst, subst₂}
use mathlib.Core.Logic.{◌↔◌, ◌≢◌}
use mathlib.Core.Bool.{Bool, true, false, So, not, ◌&&◌, ◌||◌, cond, and-true, true≢false}
use mathlib.Core.List.{List, [], ◌∷◌, ◌++◌, append-nil}
use Rattle.std.specs.Prelude.{Option, Some, None}
use Prim.Native.Nat.{ℕ, ◌≤◌, ◌<◌}
use native.Mathlib.Omega.{arith}
use lib.Dec.{leb, ltb}
use borrow.Author.Tests.{le-leb, leb-true, lt-leb, not-true}
use Rattle.soda.specs.Terms.{Term, well_formed}
use Rattle.soda.specs.Tables.{satisfied, possible}
use Rattle.soda.specs.Traces.{Event as TraceEvent, business, add_ua, rm_ua, Trace, upd, acted_below, noted}
use Rattle.soda.specs.Workflows.{successor, follow, reached, is_somewhere, is_final, authorized_all}
use Rattle.soda.specs.declared.Action.{Action}
use Rattle.soda.specs.Csp.{Accepts}
use Rattle.soda.specs.Processes.{Symbol, event, done, body, SSW, without_admin, without_done, unfinished, finished}
use Rattle.soda.proofs.Bools.{never, by_test, and_split, and-join, so_lt, lt_so}
use Rattle.soda.proofs.Workflows.{authorized_append, reached_append}
use Rattle.soda.proofs.Secure.{secure-is-all_three, rbac-is-authorized, workflow-is-reached}
use Rattle.soda.proofs.Accuracy.{possible-is-process, satisfied-is_trace, satisfied-is-multiset, theorem_1}
use Rattle.soda.proofs.Endings.{nothing_follows_done}
use Rattle.policy.specs.Codes.{ACCEPTED, MALFORMED, FULL, NOT_POSSIBLE, CLOSED, NOT_SATISFIED, NOT_AUTHORIZED, NO_TRANSITION}
use Rattle.monitor.specs.Monitors.{Opening, policy, opened}
use Rattle.monitor.specs.Events.{Event, Acts, Grants, Revokes, Closes, Malformed, is_malformed, is_short, event_code}
use Rattle.instance.specs.Letters.{letter_d, letter_c, letter_o}
use Rattle.monitor.specs.Runs.{is_action}
use Rattle.monitor.specs.Laws.{Declared}
use Rattle.monitor.proofs.Reading.{declared, Asks, asks}
use Rattle.claims.specs.Runs.{symbol_of}
use Rattle.claims.specs.Accuracy.{Run, left, history, next, trace_of, has_closed, business_events, has_room, Satisfies, workflow_of, access_of, policy_of, Enforced, EventIsProcess, SixteenIsAccess, SeventeenIsOrder, EightIsFull, CloseIsTrace, CloseIsMultiset, StatusIsTrace}
use Rattle.claims.specs.Ordered.{is_ordered, permissions_of, ordering, finals, state_after, leads_after, may_end, is_permitted}
use Rattle.claims.proofs.Ordered.{is-deterministic}
use Rattle.claims.proofs.Follows.{noted_append, below_append, unfinished_append, ended, formed-policy, Follows, follows_opened, follows_run, taken_most, same_number}
use Rattle.claims.proofs.Answers.{open_answer, answer_to, answered, letter-given}

-- ── equivalences ──
iff_trans {ℓ κ μ} : {A : Type ℓ} {B : Type κ} {C : Type μ} → A ↔ B → B ↔ C → A ↔ C
iff_trans f g = (λ a. g.0 (f.0 a), λ c. f.1 (g.1 c))

flip {ℓ κ} : {A : Type ℓ} {B : Type κ} → A ↔ B → B ↔ A
flip f = (f.1, f.0)

both {ℓ κ μ ν} : {A : Type ℓ} {B : Type κ} {C : Type μ} {D : Type ν} → A ↔ C → B ↔ D → (A × B) ↔ (C × D)
both f g = (λ x. (f.0 x.0, g.0 x.1), λ y. (f.1 y.0, g.1 y.1))

all_three {ℓ κ μ ν ξ π} : {A : Type ℓ} {B : Type κ} {C : Type μ} {D : Type ν} {E : Type ξ} {F : Type π} → A ↔ D → B ↔ E → C ↔ F → (A × B × C) ↔ (D × E × F)
all_three f g h = (λ x. (f.0 x.0, g.0 x.1, h.0 x.2), λ y. (f.1 y.0, g.1 y.1, h.1 y.2))

-- products in a row
in_four {ℓ κ μ ν} : {A : Type ℓ} {B : Type κ} {C : Type μ} {D : Type ν} → (A × B × (C × D)) ↔ (A × B × C × D)
in_four = (λ x. (x.0, x.1, x.2.0, x.2.1), λ y. (y.0, y.1, (y.2, y.3)))

in_five {ℓ κ μ ν ξ} : {A : Type ℓ} {B : Type κ} {C : Type μ} {D : Type ν} {E : Type ξ} → (A × B × (C × D × E)) ↔ (A × B × C × D × E)
in_five = (λ x. (x.0, x.1, x.2.0, x.2.1, x.2.2), λ y. (y.0, y.1, (y.2, y.3, y.4)))

so_iff : {a b : Bool} → a ≡ b → So a ↔ So b
so_iff e = (λ x. sym e ∙ x, λ y. e ∙ y)

-- a number that is given where a test fails
zero-code : (b : Bool) (k : ℕ) → 0 < k → (cond (not b) k ACCEPTED ≡ ACCEPTED) ↔ So b
zero-code true k h = (λ e. refl, λ e. refl)
zero-code false k h = (λ e. absurd (omega arith), λ e. never e)

and_iff : (a b : Bool) → So (a && b) ↔ (So a × So b)
and_iff a b = (and_split a b, λ x. and-join a b x.0 x.1)

-- ── an action's number, by its tests ──
abbrev numbered : Bool → Bool → Bool → Bool → ℕ
numbered p q f b = cond (not p) NOT_AUTHORIZED (cond (not q) NO_TRANSITION (cond f FULL (cond (not b) NOT_POSSIBLE ACCEPTED)))

is_sixteen : (p q f b : Bool) → (numbered p q f b ≡ NOT_AUTHORIZED) ↔ (p ≡ false)
is_sixteen false q f b = (λ e. refl, λ e. refl)
is_sixteen true false f b = (λ e. absurd (omega arith), λ e. absurd (true≢false e))
is_sixteen true true true b = (λ e. absurd (omega arith), λ e. absurd (true≢false e))
is_sixteen true true false true = (λ e. absurd (omega arith), λ e. absurd (true≢false e))
is_sixteen true true false false = (λ e. absurd (omega arith), λ e. absurd (true≢false e))

is_seventeen : (p q f b : Bool) → (numbered p q f b ≡ NO_TRANSITION) ↔ (So p × (q ≡ false))
is_seventeen false q f b = (λ e. absurd (omega arith), λ e. never e.0)
is_seventeen true false f b = (λ e. (refl, refl), λ e. refl)
is_seventeen true true true b = (λ e. absurd (omega arith), λ e. absurd (true≢false e.1))
is_seventeen true true false true = (λ e. absurd (omega arith), λ e. absurd (true≢false e.1))
is_seventeen true true false false = (λ e. absurd (omega arith), λ e. absurd (true≢false e.1))

is_eight : (p q f b : Bool) → (numbered p q f b ≡ FULL) ↔ (So p × So q × So f)
is_eight false q f b = (λ e. absurd (omega arith), λ e. never e.0)
is_eight true false f b = (λ e. absurd (omega arith), λ e. never e.1)
is_eight true true true b = (λ e. (refl, refl, refl), λ e. refl)
is_eight true true false true = (λ e. absurd (omega arith), λ e. never e.2)
is_eight true true false false = (λ e. absurd (omega arith), λ e. never e.2)

is_zero : (p q b : Bool) → (numbered p q false b ≡ ACCEPTED) ↔ (So q × So p × So b)
is_zero false q b = (λ e. absurd (omega arith), λ e. never e.1)
is_zero true false b = (λ e. absurd (omega arith), λ e. never e.0)
is_zero true true true = (λ e. (refl, refl, refl), λ e. refl)
is_zero true true false = (λ e. absurd (omega arith), λ e. never e.2)

-- a test that is asked where b holds
asked_fails : (b p : Bool) → ((not b || p) ≡ false) ↔ (So b × (So p → ⊥))
asked_fails true true = (λ e. absurd (true≢false e), λ e. absurd (e.1 refl))
asked_fails true false = (λ e. (refl, λ x. never x), λ e. refl)
asked_fails false p = (λ e. absurd (true≢false e), λ e. never e.0)

asked_holds : (b p : Bool) → So (not b || p) ↔ (So b → So p)
asked_holds true p = (λ e x. e, λ f. f refl)
asked_holds false p = (λ e x. never x, λ f. refl)

-- ── where a trace leads that goes on by one event ──
to_itself : (s : Option ℕ) → is_somewhere (follow s Some) ≡ is_somewhere s
to_itself (Some n) = refl
to_itself None = refl

somewhere_next : (s : Option ℕ) (g : ℕ → Option ℕ) → is_somewhere (follow s (λ n. follow (g n) Some)) ≡ is_somewhere (follow s g)
somewhere_next (Some n) g = to_itself (g n)
somewhere_next None g = refl

module _ (r : Run) where
  abbrev o : Opening
  o = r.start

  abbrev φ : Term
  φ = policy o

  abbrev l : List Symbol
  l = history r

  abbrev t : Trace
  t = trace_of l

  pub follows : Follows o (left r) l
  follows = follows_run o r.opens r.events r.lengths (opened o) [] (follows_opened o r.opens)

  answer : (w n : ℕ) → is_short w n ≡ false → event_code (left r) w n ≡ answer_to o l (next r w)
  answer = answered o r.opens (left r) l follows

  pub open_answer_lem : (w n : ℕ) → is_short w n ≡ false → has_closed l ≡ false → event_code (left r) w n ≡ open_answer o l (next r w)
  open_answer_lem w n long k = answer w n long ∙ ap (λ b. cond b CLOSED (open_answer o l (next r w))) k

  is_formed_lem : So (well_formed φ)
  is_formed_lem = formed-policy o r.opens

  abbrev taken_actions : Trace → List Action
  taken_actions s = noted φ o.rows s

  -- the taken actions are possible
  possible-taken : So (possible φ 0 (taken_actions t))
  possible-taken = subst (λ s. So (possible φ 0 s)) follows.same_taken follows.fits

  -- ── the enforcement process ──
  abbrev Sod : List Symbol → Type 1
  Sod s = Accepts body (policy_of o) s

  -- one more trace event
  process-next : (e : TraceEvent) → So (acted_below o.users (e ∷ [])) → So (possible φ 0 (taken_actions (t ++ (e ∷ [])))) ↔ Sod (unfinished (t ++ (e ∷ [])))
  process-next e d = possible-is-process φ is_formed_lem o.users o.rows (t ++ (e ∷ [])) (below_append o.users t (e ∷ []) follows.below d)

  -- one that notes no action is always possible
  possible-next : (e : TraceEvent) → noted φ (upd o.rows t) (e ∷ []) ≡ [] → So (possible φ 0 (taken_actions (t ++ (e ∷ []))))
  possible-next e k = ap (possible φ 0) (noted_append φ t (e ∷ []) o.rows ∙ ap (λ s. taken_actions t ++ s) k ∙ append-nil (taken_actions t)) ∙ possible-taken

  satisfied-finished : So (satisfied φ 0 (taken_actions t)) ↔ Sod (finished t)
  satisfied-finished = iff_trans (satisfied-is_trace φ is_formed_lem o.rows t) (flip (theorem_1 φ is_formed_lem o.users o.rows t follows.below))

  -- ── RBAC and the workflow ──
  abbrev Access : List Symbol → Type 1
  Access s = Accepts body (access_of o) (without_done s)

  abbrev Order : List Symbol → Type 1
  Order s = Accepts body (workflow_of o) (without_admin s)

  module _ (h : So (is_ordered o)) where
    access_of_lem : (s : Trace) → So (authorized_all (permissions_of o) o.rows s) ↔ Access (unfinished s)
    access_of_lem s = flip (rbac-is-authorized o.rows (permissions_of o) s).0

    order_of : (s : Trace) → So (is_somewhere (state_after o s)) ↔ Order (unfinished s)
    order_of s = flip (workflow-is-reached (ordering o) (finals o) 0 (is-deterministic o r.opens h) s).0

    -- of one more event
    access_next : (s : Trace) → authorized_all (permissions_of o) o.rows (t ++ s) ≡ authorized_all (permissions_of o) (upd o.rows t) s
    access_next s = authorized_append (permissions_of o) t s o.rows ∙ ap (λ b. b && authorized_all (permissions_of o) (upd o.rows t) s) (follows.permitted h)

    order_next : (s : Trace) → state_after o (t ++ s) ≡ follow (state_after o t) (λ n. reached (ordering o) n s)
    order_next s = reached_append (ordering o) t s 0

    permitted-is : (u a : ℕ) → So (is_permitted o t u a) ↔ Access (unfinished (t ++ (business u a ∷ [])))
    permitted-is u a = iff_trans (so_iff (sym (access_next (business u a ∷ []) ∙ and-true (is_permitted o t u a)))) (access_of_lem (t ++ (business u a ∷ [])))

    leads_is : (u a : ℕ) → So (is_somewhere (leads_after o t a)) ↔ Order (unfinished (t ++ (business u a ∷ [])))
    leads_is u a =
        iff_trans (so_iff (sym (ap is_somewhere (order_next (business u a ∷ [])) ∙ somewhere_next (state_after o t) (λ n. successor (ordering o) n a))))
        (order_of (t ++ (business u a ∷ [])))

    -- an admin event is taken by both
    admin-taken : (e : TraceEvent) → authorized_all (permissions_of o) (upd o.rows t) (e ∷ []) ≡ true → ((n : ℕ) → reached (ordering o) n (e ∷ []) ≡ Some n)
        → Order (unfinished (t ++ (e ∷ []))) × Access (unfinished (t ++ (e ∷ [])))
    admin-taken e p q = (
      (order_of (t ++ (e ∷ []))).0 (ap is_somewhere (order_next (e ∷ []) ∙ ap (λ x. follow x (λ n. reached (ordering o) n (e ∷ []))) (follows.same_state h) ∙ q (left r).instance.state)),
      (access_of_lem (t ++ (e ∷ []))).0 (access_next (e ∷ []) ∙ p),
    )

  -- ── all three ──
  abbrev Three : List Symbol → Type 1
  Three s = Order s × Access s × Sod s

  three_is : So (is_ordered o) → (s : List Symbol) → Three s ↔ Enforced r s
  three_is h s =
      subst (λ b. Three s ↔ Accepts body (cond b (SSW φ o.users (ordering o) (finals o) o.rows (permissions_of o)) (policy_of o)) s) (sym h)
      (flip (secure-is-all_three φ o.users (ordering o) (finals o) o.rows (permissions_of o) s))

  one-is : is_ordered o ≡ false → (s : List Symbol) → Sod s ↔ Enforced r s
  one-is h s =
      subst (λ b. Sod s ↔ Accepts body (cond b (SSW φ o.users (ordering o) (finals o) o.rows (permissions_of o)) (policy_of o)) s) (sym h) (λ x. x, λ x. x)

  -- the enforcement process has what the process has
  enforced_sod : (s : List Symbol) → Enforced r s → Sod s
  enforced_sod s = by_test (is_ordered o) (λ h x. ((three_is h s).1 x).2) (λ h x. (one-is h s).1 x)

  -- ── while no close has been accepted ──
  -- an action, by its tests
  abbrev act_code : Bool → ℕ → ℕ → ℕ
  act_code f u a =
      numbered (not (is_ordered o) || is_permitted o t u a) (not (is_ordered o) || is_somewhere (leads_after o t a)) f (possible φ 0 (taken_actions (t ++ (business u a ∷ []))))

  action-process : (u a : ℕ) → u < o.users → (act_code false u a ≡ ACCEPTED) ↔ Enforced r (unfinished (t ++ (business u a ∷ [])))
  action-process u a d =
      let below = and-join (ltb u o.users) true (lt_so u o.users d) refl in
      let sod = process-next (business u a) below in
      let b = possible φ 0 (taken_actions (t ++ (business u a ∷ []))) in
      let s = unfinished (t ++ (business u a ∷ [])) in
      by_test (is_ordered o)
      (λ h. iff_trans (rw h (is_zero (is_permitted o t u a) (is_somewhere (leads_after o t a)) b))
      (iff_trans (all_three (leads_is h u a) (permitted-is h u a) sod) (three_is h s)))
      (λ h. iff_trans (rw h (zero-code b NOT_POSSIBLE (omega arith))) (iff_trans sod (one-is h s)))

  admin-process : (e : TraceEvent) → So (acted_below o.users (e ∷ [])) → noted φ (upd o.rows t) (e ∷ []) ≡ []
      → authorized_all (permissions_of o) (upd o.rows t) (e ∷ []) ≡ true → ((n : ℕ) → reached (ordering o) n (e ∷ []) ≡ Some n)
      → Enforced r (unfinished (t ++ (e ∷ [])))
  admin-process e d k p q =
      let sod = (process-next e d).0 (possible-next e k) in
      let s = unfinished (t ++ (e ∷ [])) in
      by_test (is_ordered o) (λ h. let x = admin-taken h e p q in (three_is h s).0 (x.0, x.1, sod)) (λ h. (one-is h s).0 sod)

  close-process : So (satisfied φ 0 (taken_actions t) && may_end o t) ↔ Enforced r (finished t)
  close-process = by_test (is_ordered o)
      (λ h. iff_trans (and_iff (satisfied φ 0 (taken_actions t)) (may_end o t)) (iff_trans
      (λ x. ((ends h).0 x.1, access h, satisfied-finished.0 x.0), λ y. (satisfied-finished.1 y.2, (ends h).1 y.0)) (three_is h (finished t))))
      (λ h. iff_trans (so_iff (rw h (and-true (satisfied φ 0 (taken_actions t))))) (iff_trans satisfied-finished (one-is h (finished t))))
    where
      ends : (h : So (is_ordered o)) → So (may_end o t) ↔ Order (finished t)
      ends h = iff_trans (so_iff (ap (λ b. not b || is_final (finals o) (state_after o t)) h))
          (flip (workflow-is-reached (ordering o) (finals o) 0 (is-deterministic o r.opens h) t).1)

      access : (h : So (is_ordered o)) → Access (finished t)
      access h = (rbac-is-authorized o.rows (permissions_of o) t).1.1 (follows.permitted h)

  open_process : (e : Event) → Declared o.users o.roles e → is_malformed e ≡ false → So (has_room l e) → (open_answer o l e ≡ ACCEPTED) ↔ Enforced r (ended t false ++ symbol_of e)
  open_process (Acts u a) d m k =
      let few : leb 12 (business_events l) ≡ false = lt-leb 12 (business_events l) (so_lt (business_events l) 12 k) in
      rw few (subst (λ s. (act_code false u a ≡ ACCEPTED) ↔ Enforced r s) (unfinished_append t (business u a ∷ [])) (action-process u a d))
  open_process (Grants u s) d m k = (λ e. subst (Enforced r) (unfinished_append t (add_ua u s ∷ [])) (admin-process (add_ua u s) refl refl refl (λ n. refl)), λ e. refl)
  open_process (Revokes u s) d m k = (λ e. subst (Enforced r) (unfinished_append t (rm_ua u s ∷ [])) (admin-process (rm_ua u s) refl refl refl (λ n. refl)), λ e. refl)
  open_process Closes d m k = iff_trans (zero-code (satisfied φ 0 (taken_actions t) && may_end o t) NOT_SATISFIED (omega arith)) close-process
  open_process Malformed d m k = absurd (true≢false m)

  -- nothing follows done
  closed_process : (e : Event) → is_malformed e ≡ false → Enforced r (finished t ++ symbol_of e) → ⊥
  closed_process e m x = go e m (enforced_sod (finished t ++ symbol_of e) x)
    where
      go : (e : Event) → is_malformed e ≡ false → Sod (finished t ++ symbol_of e) → ⊥
      go (Acts u a) m x = nothing_follows_done φ o.rows (λ v. ltb v o.users) t (event (business u a)) [] x
      go (Grants u s) m x = nothing_follows_done φ o.rows (λ v. ltb v o.users) t (event (add_ua u s)) [] x
      go (Revokes u s) m x = nothing_follows_done φ o.rows (λ v. ltb v o.users) t (event (rm_ua u s)) [] x
      go Closes m x = nothing_follows_done φ o.rows (λ v. ltb v o.users) t done [] x
      go Malformed m x = true≢false m

  process : (c : Bool) (e : Event) → Declared o.users o.roles e → is_malformed e ≡ false → So (has_room l e)
      → (cond c CLOSED (open_answer o l e) ≡ ACCEPTED) ↔ Enforced r (ended t c ++ symbol_of e)
  process true e d m k = (λ x. absurd (omega arith), λ x. absurd (closed_process e m x))
  process false e d m k = open_process e d m k

  -- ── 16, 17 and 8 ──
  -- what the claims say of an event behind the accepted ones, by the trace
  abbrev Taken : Bool → Event → Type 1
  Taken c e = Access (ended t c ++ symbol_of e)

  abbrev Ordered : Bool → Event → Type 1
  Ordered c e = Order (ended t c ++ symbol_of e)

  taken_is : So (is_ordered o) → (u a : ℕ) → So (is_permitted o t u a) ↔ Taken false (Acts u a)
  taken_is h u a = subst (λ s. So (is_permitted o t u a) ↔ Access s) (unfinished_append t (business u a ∷ [])) (permitted-is h u a)

  ordered_is : So (is_ordered o) → (u a : ℕ) → So (is_somewhere (leads_after o t a)) ↔ Ordered false (Acts u a)
  ordered_is h u a = subst (λ s. So (is_somewhere (leads_after o t a)) ↔ Order s) (unfinished_append t (business u a ∷ [])) (leads_is h u a)

  -- no other event gives a number but 0, 7 and 11
  other : (e : Event) (k : ℕ) → is_action e ≡ false → open_answer o l e ≡ k → k ≢ ACCEPTED → k ≢ MALFORMED → k ≢ NOT_SATISFIED → ⊥
  other (Acts u a) k i e x y z = true≢false i
  other (Grants u s) k i e x y z = x (sym e)
  other (Revokes u s) k i e x y z = x (sym e)
  other Closes k i e x y z = by_test (satisfied φ 0 (taken_actions t) && may_end o t) (λ b. x (sym e ∙ rw b)) (λ b. z (sym e ∙ rw b))
  other Malformed k i e x y z = y (sym e)

  module _ (k : ℕ) (x : k ≢ ACCEPTED) (y : k ≢ MALFORMED) (z : k ≢ NOT_SATISFIED) (c : k ≢ CLOSED) (X : Bool → Event → Type 1)
      (f : (u a : ℕ) → (open_answer o l (Acts u a) ≡ k) ↔ X false (Acts u a)) where
    none : (e : Event) → is_action e ≡ false → (open_answer o l e ≡ k) ↔ (So (is_action e) × X false e)
    none e i = (λ n. absurd (other e k i n x y z), λ n. absurd (true≢false (sym n.0 ∙ i)))

    while_open : (e : Event) → (open_answer o l e ≡ k) ↔ (So (is_action e) × X false e)
    while_open (Acts u a) = (λ e. (refl, (f u a).0 e), λ n. (f u a).1 n.1)
    while_open (Grants u s) = none (Grants u s) refl
    while_open (Revokes u s) = none (Revokes u s) refl
    while_open Closes = none Closes refl
    while_open Malformed = none Malformed refl

    of_actions : (b : Bool) (e : Event) → (cond b CLOSED (open_answer o l e) ≡ k) ↔ (So (is_action e) × So (not b) × X b e)
    of_actions true e = (λ n. absurd (c (sym n)), λ n. never n.1)
    of_actions false e = let g = while_open e in (λ n. let (i, v) = g.0 n in (i, refl, v), λ n. g.1 (n.0, n.2))

  -- an action's tests
  module _ (u a : ℕ) where
    abbrev p : Bool
    p = not (is_ordered o) || is_permitted o t u a

    abbrev q : Bool
    q = not (is_ordered o) || is_somewhere (leads_after o t a)

    abbrev full : Bool
    full = leb 12 (business_events l)

    abbrev b : Bool
    b = possible φ 0 (taken_actions (t ++ (business u a ∷ [])))

    sixteen : (open_answer o l (Acts u a) ≡ NOT_AUTHORIZED) ↔ (So (is_ordered o) × (Taken false (Acts u a) → ⊥))
    sixteen =
        iff_trans (is_sixteen p q full b) (iff_trans (asked_fails (is_ordered o) (is_permitted o t u a))
        (λ x. (x.0, λ y. x.1 ((taken_is x.0 u a).1 y)), λ x. (x.0, λ y. x.1 ((taken_is x.0 u a).0 y))))

    seventeen : (open_answer o l (Acts u a) ≡ NO_TRANSITION) ↔ (So (is_ordered o) × Taken false (Acts u a) × (Ordered false (Acts u a) → ⊥))
    seventeen =
        let may = asked_holds (is_ordered o) (is_permitted o t u a) in
        let fails = asked_fails (is_ordered o) (is_somewhere (leads_after o t a)) in
        iff_trans (is_seventeen p q full b) (
          λ x. let (h, never-goes) = fails.0 x.1 in (h, (taken_is h u a).0 (may.0 x.0 h), λ y. never-goes ((ordered_is h u a).1 y)),
          λ x. let h = x.0 in (may.1 (λ k. (taken_is h u a).1 x.1), fails.1 (h, λ y. x.2 ((ordered_is h u a).0 y))),
        )

    -- twelve have been taken
    is_full : So full ↔ (business_events l ≡ 12)
    is_full = (λ x. omega (arith, most, leb-true 12 (business_events l) x), λ x. le-leb 12 (business_events l) (omega (arith, x)))
      where
        most : business_events l ≤ 12
        most = let n = same_number o r.opens (left r) l follows in omega (arith, taken_most o r.opens (left r) l follows)

    eight : (open_answer o l (Acts u a) ≡ FULL) ↔ ((business_events l ≡ 12) × (So (is_ordered o) → Taken false (Acts u a) × Ordered false (Acts u a)))
    eight =
        let may = asked_holds (is_ordered o) (is_permitted o t u a) in
        let goes = asked_holds (is_ordered o) (is_somewhere (leads_after o t a)) in
        iff_trans (is_eight p q full b) (
          λ x. (is_full.0 x.2, λ h. ((taken_is h u a).0 (may.0 x.0 h), (ordered_is h u a).0 (goes.0 x.1 h))),
          λ x. (may.1 (λ h. (taken_is h u a).1 (x.1 h).0), goes.1 (λ h. (ordered_is h u a).1 (x.1 h).1), is_full.1 x.0),
        )

  -- ── a close ──
  close : (w n : ℕ) → next r w ≡ Closes → So (not (has_closed l)) → (event_code (left r) w n ≡ ACCEPTED) ↔ So (satisfied φ 0 (taken_actions t) && may_end o t)
  close w n q k = subst (λ (x : ℕ). (x ≡ ACCEPTED) ↔ So (satisfied φ 0 (taken_actions t) && may_end o t))
      (sym (open_answer_lem w n (subst (Asks w n) q (asks o.users o.roles w n)) (not-true (has_closed l) k) ∙ ap (open_answer o l) q)) (zero-code (satisfied φ 0 (taken_actions t) && may_end o t) NOT_SATISFIED (omega arith))

-- ── the claims ──
pub event-is-process : EventIsProcess
event-is-process r w n long m k = subst₂ (λ (x : ℕ) (s : List Symbol). (x ≡ ACCEPTED) ↔ Enforced r (s ++ symbol_of (next r w))) (sym (answer r w n long)) (sym (follows r).ends)
    (process r (has_closed (history r)) (next r w) (declared r.start.users r.start.roles w) m k)

-- a claim about an action's number, from what holds of it by the trace
module _ (r : Run) (w n : ℕ) (long : is_short w n ≡ false) (k : ℕ) (X : List Symbol → Type 1)
    (f : (cond (has_closed (history r)) CLOSED (open_answer r.start (history r) (next r w)) ≡ k)
    ↔ (So (is_action (next r w)) × So (not (has_closed (history r))) × X (ended (t r) (has_closed (history r)) ++ symbol_of (next r w)))) where
  claimed : (event_code (left r) w n ≡ k) ↔ (So (is_action (next r w)) × So (not (has_closed (history r))) × X (history r ++ symbol_of (next r w)))
  claimed = subst₂ (λ (x : ℕ) (s : List Symbol). (x ≡ k) ↔ (So (is_action (next r w)) × So (not (has_closed (history r))) × X (s ++ symbol_of (next r w))))
      (sym (answer r w n long)) (sym (follows r).ends) f

pub sixteen_is_access : SixteenIsAccess
sixteen_is_access r w n long =
    iff_trans (claimed r w n long NOT_AUTHORIZED (λ s. So (is_ordered r.start) × (Access r s → ⊥))
    (of_actions r NOT_AUTHORIZED (λ x. omega arith) (λ x. omega arith) (λ x. omega arith) (λ x. omega arith)
    (λ c e. So (is_ordered r.start) × (Taken r c e → ⊥)) (sixteen r) (has_closed (history r)) (next r w))) in_four

pub seventeen_is_order : SeventeenIsOrder
seventeen_is_order r w n long =
    iff_trans (claimed r w n long NO_TRANSITION (λ s. So (is_ordered r.start) × Access r s × (Order r s → ⊥))
    (of_actions r NO_TRANSITION (λ x. omega arith) (λ x. omega arith) (λ x. omega arith) (λ x. omega arith)
    (λ c e. So (is_ordered r.start) × Taken r c e × (Ordered r c e → ⊥)) (seventeen r) (has_closed (history r)) (next r w))) in_five

pub eight_is_full : EightIsFull
eight_is_full r w n long =
    iff_trans (claimed r w n long FULL (λ s. (business_events (history r) ≡ 12) × (So (is_ordered r.start) → Access r s × Order r s))
    (of_actions r FULL (λ x. omega arith) (λ x. omega arith) (λ x. omega arith) (λ x. omega arith)
    (λ c e. (business_events (history r) ≡ 12) × (So (is_ordered r.start) → Taken r c e × Ordered r c e)) (eight r) (has_closed (history r)) (next r w))) in_four

pub close-is_trace : CloseIsTrace
close-is_trace r w n q k =
    iff_trans (close r w n q k) (iff_trans (and_iff (satisfied (φ r) 0 (taken_actions r (t r))) (may_end r.start (t r)))
    (both (satisfied-is_trace (φ r) (is_formed_lem r) r.start.rows (t r)) (so_iff refl)))

pub close-is-multiset : CloseIsMultiset
close-is-multiset r w n q k b =
    iff_trans (close r w n q k) (iff_trans (and_iff (satisfied (φ r) 0 (taken_actions r (t r))) (may_end r.start (t r)))
    (both (satisfied-is-multiset (φ r) (is_formed_lem r) r.start.rows (t r) b) (so_iff refl)))

-- the three letters, of a mark and a judgement
letters : (c s : Bool) {P : Type 0} → So s ↔ P
    → ((cond c letter_d (cond s letter_c letter_o) ≡ letter_d) ↔ So c)
    × ((cond c letter_d (cond s letter_c letter_o) ≡ letter_c) ↔ (So (not c) × P))
    × ((cond c letter_d (cond s letter_c letter_o) ≡ letter_o) ↔ (So (not c) × (P → ⊥)))
letters true s k = ((λ e. refl, λ e. refl), (λ e. absurd (omega arith), λ e. never e.0), (λ e. absurd (omega arith), λ e. never e.0))
letters false true k = ((λ e. absurd (omega arith), λ e. never e), (λ e. (refl, k.0 refl), λ e. refl), (λ e. absurd (omega arith), λ e. absurd (e.1 (k.0 refl))))
letters false false k = ((λ e. absurd (omega arith), λ e. never e), (λ e. absurd (omega arith), λ e. never (k.1 e.1)), (λ e. (refl, λ x. never (k.1 x)), λ e. refl))

pub status-is_trace : StatusIsTrace
status-is_trace r =
    subst (λ (x : ℕ). ((x ≡ letter_d) ↔ So (has_closed (history r)))
    × ((x ≡ letter_c) ↔ (So (not (has_closed (history r))) × Satisfies r))
    × ((x ≡ letter_o) ↔ (So (not (has_closed (history r))) × (Satisfies r → ⊥))))
    (sym (letter-given r.start r.opens (left r) (history r) (follows r)))
    (letters (has_closed (history r)) (satisfied (φ r) 0 (noted (φ r) r.start.rows (t r))) (satisfied-is_trace (φ r) (is_formed_lem r) r.start.rows (t r)))
