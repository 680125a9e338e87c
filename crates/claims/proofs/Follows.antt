-- A monitor keeps step with its accepted events: its rows are what their trace makes of the grants, its taken actions are what the
-- trace's actions note, and they are possible; its workflow is where the trace's actions lead, and each was permitted.
use mathlib.Core.Path.{◌≡◌, refl, sym, ◌∙◌, ap, ap₂, subst}
use mathlib.Core.Bool.{Bool, true, false, So, not, ◌||◌, cond}
use mathlib.Core.List.{List, [], ◌∷◌, ◌++◌, map, map-append, append-nil, append_assoc}
use mathlib.Core.Option.{some}
use Rattle.std.specs.Prelude.{Option, Some, None}
use Prim.Native.Nat.{ℕ, ◌-◌, ◌≤◌, ◌<◌}
use native.Mathlib.Omega.{arith}
use lib.Dec.{leb, ltb, eqb}
use lib.ListN.{length, take, set as put, replicate, length-set, length-map, length-replicate}
use lib.Seq.{take-append_seam, take-set-lt, get_or-take, length-take-le}
use borrow.Author.Tests.{le-leb, leb-false, not-false, eqb-true}
use Rattle.soda.specs.Bits.{bit, set_bit, clear_bit}
use Rattle.soda.specs.Lists.{padded}
use Rattle.soda.specs.Terms.{Term, size, well_formed as wellFormedTerm}
use Rattle.soda.specs.Roles.{UA, roles, grant, revoke, authorized}
use Rattle.soda.specs.Workflows.{successor, follow, reached, is_somewhere, is_final, authorized_all}
use Rattle.soda.specs.declared.Action.{Action}
use Rattle.soda.specs.Tables.{satisfied, possible, note}
use Rattle.soda.specs.Traces.{business, add_ua, rm_ua, Trace, upd, after, acted_below, execution, executed, noted}
use Rattle.soda.specs.Processes.{Symbol, event, done, unfinished, finished}
use Rattle.soda.proofs.Bools.{never, by_test, and_split, and-join, lt_so}
use Rattle.soda.proofs.Workflows.{authorized_append, reached_append}
use Rattle.soda.proofs.Terms.{size_pos}
use Rattle.soda.proofs.Words.{encode-length}
use Rattle.soda.proofs.Tables.{empty_set}
use Rattle.soda.proofs.Traces.{executed_append}
use Rattle.policy.specs.Refusals.{code}
use Rattle.policy.specs.Words.{decode, term_of}
use Rattle.policy.specs.Reading.{length_ok}
use Rattle.units.specs.Units.{met_in, met_of}
use Rattle.policy.specs.Accepted.{IsPolicy}
use Rattle.policy.proofs.Refusals.{clear}
use Rattle.policy.proofs.Accepted.{decode-is-term}
use Rattle.workflow.specs.Workflows.{transitions_of, is_given, is_final_state, workflow_of}
use Rattle.configuration.specs.declared.Configuration.{Configuration}
use Rattle.instance.specs.declared.Instance.{Instance}
use Rattle.monitor.specs.declared.Monitor.{Monitor}
use Rattle.configuration.specs.Configurations.{assignment, held}
use Rattle.instance.specs.Instances.{policy_of, taken_of, term, has_workflow, is_closed, noted as notedAs, noted_for}
use Rattle.instance.specs.Steps.{is_authorized, leads_to, state_of, is_final as isFinalHere}
use Rattle.monitor.specs.Monitors.{Opening, policy, secure, open_code, fresh, opened, well_formed}
use Rattle.monitor.specs.Statuses.{letter_of}
use Rattle.monitor.specs.Events.{Event, Acts, Grants, Revokes, Closes, Malformed, is_short, event_in, own_refusals, configured, advanced, applied, event_code, event_monitor, outcome, tried}
use Rattle.monitor.specs.Laws.{Declared, Passed}
use Rattle.monitor.specs.Runs.{Lengths, from, step_of, run, final}
use Rattle.monitor.proofs.Opening.{opened-is-fresh}
use Rattle.configuration.proofs.Formed.{one_each}
use Rattle.monitor.proofs.Formed.{opened-rows_ok, opened-is-policy, twelve_at_most}
use Rattle.monitor.proofs.Reading.{declared}
use Rattle.monitor.proofs.Order.{accepted_has_passed}
use Rattle.instance.proofs.Formed.{taken_more}
use Rattle.monitor.proofs.Preserved.{opened-is_well_formed, accepted_stays_well_formed}
use Rattle.monitor.proofs.Letters.{opened_has_letter, event_keeps_letter}
use Rattle.claims.specs.Runs.{symbol_of, kept, accepted}
use Rattle.claims.specs.Ordered.{is_ordered, permissions_of, ordering, finals, state_after, leads_after, may_end, is_permitted}
use Rattle.claims.specs.Accuracy.{trace_of, has_closed, business_events}
use Rattle.claims.proofs.Ordered.{given-is_ordered, same_workflow, same-authorized}

-- ── traces and symbols that grow at their end ──
upd_append : (s t : Trace) (ua : UA) → upd ua (s ++ t) ≡ upd (upd ua s) t
upd_append [] t ua = refl
upd_append (e ∷ s) t ua = upd_append s t (after ua e)

pub noted_append : (φ : Term) (s t : Trace) (ua : UA) → noted φ ua (s ++ t) ≡ noted φ ua s ++ noted φ (upd ua s) t
noted_append φ s t ua = ap (map (note φ)) (executed_append s t ua) ∙ map-append (note φ) (executed ua s) (executed (upd ua s) t)

pub below_append : (n : ℕ) (s t : Trace) → So (acted_below n s) → So (acted_below n t) → So (acted_below n (s ++ t))
below_append n [] t h k = k
below_append n (business u a ∷ s) t h k = let m = and_split (ltb u n) (acted_below n s) h in and-join (ltb u n) (acted_below n (s ++ t)) m.0 (below_append n s t m.1 k)
below_append n (add_ua u r ∷ s) t h k = below_append n s t h k
below_append n (rm_ua u r ∷ s) t h k = below_append n s t h k

trace_append : (l k : List Symbol) → trace_of (l ++ k) ≡ trace_of l ++ trace_of k
trace_append [] k = refl
trace_append (event e ∷ l) k = ap (λ t. e ∷ t) (trace_append l k)
trace_append (done ∷ l) k = trace_append l k

closed_append : (l k : List Symbol) → has_closed (l ++ k) ≡ (has_closed l || has_closed k)
closed_append [] k = refl
closed_append (event e ∷ l) k = closed_append l k
closed_append (done ∷ l) k = refl

-- as many actions as their trace has
counted : (l : List Symbol) (ua : UA) → business_events l ≡ length (executed ua (trace_of l))
counted [] ua = refl
counted (event (business u a) ∷ l) ua = let k = counted l ua in omega arith
counted (event (add_ua u r) ∷ l) ua = let k = counted l (grant ua u r) in omega arith
counted (event (rm_ua u r) ∷ l) ua = let k = counted l (revoke ua u r) in omega arith
counted (done ∷ l) ua = counted l ua

-- a trace, with done behind it where it is closed
abbrev pub ended : Trace → Bool → List Symbol
ended t c = cond c (finished t) (unfinished t)

pub unfinished_append : (s t : Trace) → unfinished (s ++ t) ≡ unfinished s ++ unfinished t
unfinished_append s t = map-append event s t

-- ── the policy of an opening ──
module _ (o : Opening) (z : open_code o ≡ 0) where
  is-policy : IsPolicy o.users o.roles o.words (policy o)
  is-policy = opened-is-policy o z

  decoded : decode o.words ≡ some (policy o)
  decoded = decode-is-term o.users o.roles o.words (policy o) is-policy

  pub formed-policy : So (wellFormedTerm (policy o))
  formed-policy = is-policy.formed

  long : So (length_ok (length o.words))
  long =
      let n = length o.words in
      let size_is : n ≡ size (policy o) = ap length is-policy.written ∙ encode-length (policy o) in
      and-join (leb 1 n) (leb n 31) (le-leb 1 n (omega (arith, size_is, size_pos (policy o)))) (le-leb n 31 (omega (arith, size_is, is-policy.short)))

  -- what is noted of a user with these roles is what the algebra notes
  pub noted-is-note : (u h : ℕ) → notedAs o.words u h ≡ note (policy o) (record { user = u; held = h })
  unfolding met_of
  noted-is-note u h = rw long (ap (λ x. record { user = u; met = met_in x u h }) decoded)

-- ── keeping step ──
-- l are the accepted events
pub record Follows (o : Opening) (m : Monitor) (l : List Symbol) : Type 0 where
  pub is_well : So (well_formed m)
  pub places : length m.instance.actions ≡ 12
  pub same_users : m.configuration.users ≡ o.users
  pub same_roles : m.configuration.roles ≡ o.roles
  pub same_words : policy_of m.instance ≡ o.words
  pub same_rows : assignment m.configuration ≡ upd o.rows (trace_of l)
  pub same_taken : taken_of m.instance ≡ noted (policy o) o.rows (trace_of l)
  pub same_mark : is_closed m.instance ≡ has_closed l
  pub same_letter : m.instance.status ≡ letter_of m.instance
  pub fits : So (possible (policy o) 0 (taken_of m.instance))
  pub below : So (acted_below o.users (trace_of l))
  pub ends : l ≡ ended (trace_of l) (has_closed l)
  pub same_permissions : m.configuration.permissions ≡ (secure o).permissions
  pub same_workflow : m.instance.workflow ≡ (secure o).workflow
  pub same_state : So (is_ordered o) → state_after o (trace_of l) ≡ Some m.instance.state
  pub permitted : So (is_ordered o) → So (authorized_all (permissions_of o) o.rows (trace_of l))

-- a trace that goes on somewhere
arrives : (s : Option ℕ) → So (is_somewhere s) → follow s Some ≡ Some (state_of s)
arrives (Some n) h = refl
arrives None h = never h

module _ (o : Opening) (z : open_code o ≡ 0) where
  follows_fresh : Follows o (fresh o) []
  unfolding fresh
  follows_fresh = record {
    is_well = opened-is_well_formed o z;
    places = refl;
    same_users = refl;
    same_roles = refl;
    same_words = take-append_seam o.words (replicate (31 - length o.words) 0);
    same_rows = ap (λ n. take n (padded 16 o.rows)) (sym (one_each o.users o.roles o.rows (opened-rows_ok o z)))
        ∙ take-append_seam o.rows (replicate (16 - length o.rows) 0);
    same_taken = refl;
    same_mark = refl;
    same_letter = opened_has_letter o;
    fits = empty_set Action (λ a. a.user) (λ φ j a. bit j a.met) true (policy o) 0;
    below = refl;
    ends = refl;
    same_permissions = refl;
    same_workflow = refl;
    same_state = λ h. refl;
    permitted = λ h. refl;
  }

  pub follows_opened : Follows o (opened o) []
  follows_opened = subst (λ m. Follows o m []) (sym (opened-is-fresh o z)) follows_fresh

  module _ (m : Monitor) (l : List Symbol) (f : Follows o m l) where
    abbrev c : Configuration
    c = m.configuration

    abbrev i : Instance
    i = m.instance

    abbrev t : Trace
    t = trace_of l

    -- the user assignment as it stands
    abbrev ua : UA
    ua = upd o.rows t

    same-term : term i ≡ policy o
    same-term = ap (λ v. term_of (decode v)) f.same_words

    -- a declared user's row
    row_at : (u : ℕ) → u < c.users → held c u ≡ roles (assignment c) u
    row_at u h = sym (get_or-take c.users c.user_roles u 0 h)

    noted-next : (u : ℕ) → u < c.users → noted_for c i u ≡ note (policy o) (execution ua u)
    noted-next u h = ap₂ (λ v x. notedAs v u x) f.same_words (row_at u h ∙ ap (λ x. roles x u) f.same_rows) ∙ noted-is-note o z u (roles ua u)

    -- the actions that a trial judges
    tried-next : (u a : ℕ) → u < c.users → tried c i u ≡ noted (policy o) o.rows (t ++ (business u a ∷ []))
    tried-next u a h = ap₂ (λ x y. x ++ (y ∷ [])) f.same_taken (noted-next u h) ∙ sym (noted_append (policy o) t (business u a ∷ []) o.rows)

    pub satisfied-taken : satisfied (term i) 0 (taken_of i) ≡ satisfied (policy o) 0 (noted (policy o) o.rows t)
    satisfied-taken = ap₂ (λ φ s. satisfied φ 0 s) same-term f.same_taken

    pub possible-tried : (u a : ℕ) → u < c.users → possible (term i) 0 (tried c i u) ≡ possible (policy o) 0 (noted (policy o) o.rows (t ++ (business u a ∷ [])))
    possible-tried u a h = ap₂ (λ φ s. possible φ 0 s) same-term (tried-next u a h)

    pub taken_most : i.taken ≤ 12
    taken_most = twelve_at_most m f.is_well

    pub same_number : business_events l ≡ i.taken
    same_number =
        counted l o.rows ∙ sym (length-map (executed o.rows t) (note (policy o))) ∙ ap (λ (s : List Action). length s) (sym f.same_taken)
        ∙ length-take-le i.taken i.actions (omega (arith, f.places, taken_most))

    -- ── permissions and workflow ──
    gives_ordered : has_workflow i ≡ is_ordered o
    gives_ordered = ap is_given f.same_workflow ∙ given-is_ordered o z

    module _ (h : So (is_ordered o)) where
      given-workflow : i.workflow ≡ workflow_of o.workflow
      given-workflow = f.same_workflow ∙ same_workflow o z h

      leads_to_lem : (a : ℕ) → leads_to i a ≡ successor (ordering o) i.state a
      unfolding leads_to
      leads_to_lem a = rw (gives_ordered ∙ h) (ap (λ w. successor (transitions_of w) i.state a) given-workflow)

      leads_next : (a : ℕ) → leads_to i a ≡ leads_after o t a
      leads_next a = leads_to_lem a ∙ sym (ap (λ s. follow s (λ n. successor (ordering o) n a)) (f.same_state h))

      authorized-next : (u a : ℕ) → u < c.users → authorized c.permissions (held c u) a ≡ is_permitted o t u a
      authorized-next u a d =
          ap₂ (λ p x. authorized p x a) f.same_permissions (row_at u d ∙ ap (λ x. roles x u) f.same_rows) ∙ same-authorized o z h (roles ua u) a

      final-next : is_final_state i.workflow i.state ≡ is_final (finals o) (state_after o t)
      final-next = ap (λ w. is_final_state w i.state) given-workflow ∙ sym (ap (is_final (finals o)) (f.same_state h))

    -- what the three tests are
    pub may_is : (u a : ℕ) → u < c.users → is_authorized c i u a ≡ (not (is_ordered o) || is_permitted o t u a)
    unfolding is_authorized
    may_is u a d = by_test (is_ordered o) (λ h. rw (gives_ordered ∙ h, h) (authorized-next h u a d)) (λ h. rw (gives_ordered ∙ h, h))

    stays_there : (a : ℕ) → is_ordered o ≡ false → is_somewhere (leads_to i a) ≡ true
    unfolding leads_to
    stays_there a h = rw (gives_ordered ∙ h)

    pub goes_is : (a : ℕ) → is_somewhere (leads_to i a) ≡ (not (is_ordered o) || is_somewhere (leads_after o t a))
    goes_is a = by_test (is_ordered o) (λ h. rw h (ap is_somewhere (leads_next h a))) (λ h. rw h (stays_there a h))

    pub end_is : isFinalHere i ≡ may_end o t
    unfolding isFinalHere
    end_is = by_test (is_ordered o) (λ h. rw (gives_ordered ∙ h, h) (final-next h)) (λ h. rw (gives_ordered ∙ h, h))

    -- ── an event that enters, part by part ──
    rows_next : (e : Event) → Declared c.users c.roles e → assignment (configured c e) ≡ upd (assignment c) (trace_of (symbol_of e))
    rows_next (Acts u a) d = refl
    rows_next (Grants u r) d =
        take-set-lt c.users c.user_roles u (set_bit r (held c u)) d.0 ∙ ap (λ x. put (assignment c) u (set_bit r x)) (row_at u d.0)
    rows_next (Revokes u r) d =
        take-set-lt c.users c.user_roles u (clear_bit r (held c u)) d.0 ∙ ap (λ x. put (assignment c) u (clear_bit r x)) (row_at u d.0)
    rows_next Closes d = refl
    rows_next Malformed d = refl

    -- an action that is taken
    more : (u a : ℕ) → i.taken < 12 → taken_of (advanced c i (Acts u a)) ≡ tried c i u
    more u a free = taken_more i (noted_for c i u) (state_of (leads_to i a)) (omega (arith, f.places))

    taken_next : (e : Event) → Declared c.users c.roles e → code (own_refusals c i e) ≡ 0 → taken_of (advanced c i e) ≡ taken_of i ++ noted (policy o) ua (trace_of (symbol_of e))
    taken_next (Acts u a) d k =
        let j = clear (own_refusals c i (Acts u a)) refl k in
        more u a (leb-false 12 i.taken j.1.1.0) ∙ ap (λ x. taken_of i ++ (x ∷ [])) (noted-next u d)
    taken_next (Grants u r) d k = sym (append-nil (taken_of i))
    taken_next (Revokes u r) d k = sym (append-nil (taken_of i))
    taken_next Closes d k = sym (append-nil (taken_of i))
    taken_next Malformed d k = sym (append-nil (taken_of i))

    fits_next : (e : Event) → Declared c.users c.roles e → code (own_refusals c i e) ≡ 0 → So (possible (policy o) 0 (taken_of (advanced c i e)))
    fits_next (Acts u a) d k =
        let j = clear (own_refusals c i (Acts u a)) refl k in
        ap₂ (λ φ s. possible φ 0 s) (sym same-term) (more u a (leb-false 12 i.taken j.1.1.0)) ∙ not-false (possible (term i) 0 (tried c i u)) j.1.1.1.0
    fits_next (Grants u r) d k = f.fits
    fits_next (Revokes u r) d k = f.fits
    fits_next Closes d k = f.fits
    fits_next Malformed d k = f.fits

    mark_next : (e : Event) → is_closed i ≡ false → is_closed (advanced c i e) ≡ has_closed (symbol_of e)
    mark_next (Acts u a) k = k
    mark_next (Grants u r) k = k
    mark_next (Revokes u r) k = k
    mark_next Closes k = refl
    mark_next Malformed k = k

    places-next : (e : Event) → length (advanced c i e).actions ≡ 12
    places-next (Acts u a) = length-set i.actions i.taken (noted_for c i u) ∙ f.places
    places-next (Grants u r) = f.places
    places-next (Revokes u r) = f.places
    places-next Closes = f.places
    places-next Malformed = f.places

    below_next : (e : Event) → Declared c.users c.roles e → So (acted_below o.users (trace_of (symbol_of e)))
    below_next (Acts u a) d = and-join (ltb u o.users) true (lt_so u o.users (subst (λ n. u < n) f.same_users d)) refl
    below_next (Grants u r) d = refl
    below_next (Revokes u r) d = refl
    below_next Closes d = refl
    below_next Malformed d = refl

    ends_next : (e : Event) → has_closed l ≡ false → l ++ symbol_of e ≡ ended (t ++ trace_of (symbol_of e)) (has_closed (symbol_of e))
    ends_next e k = ap (λ x. x ++ symbol_of e) (f.ends ∙ ap (ended t) k) ∙ go e
      where
        go : (e : Event) → unfinished t ++ symbol_of e ≡ ended (t ++ trace_of (symbol_of e)) (has_closed (symbol_of e))
        go (Acts u a) = sym (unfinished_append t (business u a ∷ []))
        go (Grants u r) = sym (unfinished_append t (add_ua u r ∷ []))
        go (Revokes u r) = sym (unfinished_append t (rm_ua u r ∷ []))
        go Closes = ap finished (sym (append-nil t))
        go Malformed = append-nil (unfinished t) ∙ ap unfinished (sym (append-nil t))

    -- the counts, the policy, the permissions and the workflow stay
    stays : (e : Event) → ((configured c e).users ≡ c.users) × ((configured c e).roles ≡ c.roles) × (policy_of (advanced c i e) ≡ policy_of i)
        × ((configured c e).permissions ≡ c.permissions) × ((advanced c i e).workflow ≡ i.workflow)
    stays (Acts u a) = (refl, refl, refl, refl, refl)
    stays (Grants u r) = (refl, refl, refl, refl, refl)
    stays (Revokes u r) = (refl, refl, refl, refl, refl)
    stays Closes = (refl, refl, refl, refl, refl)
    stays Malformed = (refl, refl, refl, refl, refl)

    module _ (h : So (is_ordered o)) where
      -- where more of a trace leads
      state-more : (s : Trace) → state_after o (t ++ s) ≡ reached (ordering o) i.state s
      state-more s = reached_append (ordering o) t s 0 ∙ ap (λ x. follow x (λ n. reached (ordering o) n s)) (f.same_state h)

      state-next : (e : Event) → code (own_refusals c i e) ≡ 0 → state_after o (t ++ trace_of (symbol_of e)) ≡ Some (advanced c i e).state
      state-next (Acts u a) k =
          let j = clear (own_refusals c i (Acts u a)) refl k in
          state-more (business u a ∷ []) ∙ ap (λ s. follow s Some) (sym (leads_to_lem h a)) ∙ arrives (leads_to i a) (not-false (is_somewhere (leads_to i a)) j.1.0)
      state-next (Grants u r) k = state-more (add_ua u r ∷ [])
      state-next (Revokes u r) k = state-more (rm_ua u r ∷ [])
      state-next Closes k = state-more []
      state-next Malformed k = state-more []

      permitted-more : (s : Trace) → So (authorized_all (permissions_of o) ua s) → So (authorized_all (permissions_of o) o.rows (t ++ s))
      permitted-more s p =
          authorized_append (permissions_of o) t s o.rows
          ∙ and-join (authorized_all (permissions_of o) o.rows t) (authorized_all (permissions_of o) ua s) (f.permitted h) p

      permitted-next : (e : Event) → Declared c.users c.roles e → code (own_refusals c i e) ≡ 0
          → So (authorized_all (permissions_of o) o.rows (t ++ trace_of (symbol_of e)))
      permitted-next (Acts u a) d k =
          let j = clear (own_refusals c i (Acts u a)) refl k in
          let may : So (is_permitted o t u a) = rw (may_is u a d, h) at (not-false (is_authorized c i u a) j.0) in
          permitted-more (business u a ∷ []) (and-join (is_permitted o t u a) true may refl)
      permitted-next (Grants u r) d k = permitted-more (add_ua u r ∷ []) refl
      permitted-next (Revokes u r) d k = permitted-more (rm_ua u r ∷ []) refl
      permitted-next Closes d k = permitted-more [] refl
      permitted-next Malformed d k = permitted-more [] refl

    -- the symbols of the next event behind the accepted ones
    trace_next : (e : Event) → trace_of (l ++ symbol_of e) ≡ t ++ trace_of (symbol_of e)
    trace_next e = trace_append l (symbol_of e)

    follows_next : (e : Event) (short : Bool) → Passed m e short → Declared c.users c.roles e → So (well_formed (applied m e))
        → (applied m e).instance.status ≡ letter_of (applied m e).instance → Follows o (applied m e) (l ++ symbol_of e)
    follows_next e short p d h lettered =
        let (users, roles, words, permissions, workflow) = stays e in
        let s = trace_of (symbol_of e) in
        let was_open : has_closed l ≡ false = sym f.same_mark ∙ p.is_open in
        let closed : has_closed (l ++ symbol_of e) ≡ has_closed (symbol_of e) = closed_append l (symbol_of e) ∙ ap (λ b. b || has_closed (symbol_of e)) was_open in
        record {
          is_well = h;
          places = places-next e;
          same_users = users ∙ f.same_users;
          same_roles = roles ∙ f.same_roles;
          same_words = words ∙ f.same_words;
          same_rows = rows_next e d ∙ ap (λ x. upd x s) f.same_rows ∙ sym (upd_append t s o.rows) ∙ ap (upd o.rows) (sym (trace_next e));
          same_taken = taken_next e d p.own ∙ ap (λ x. x ++ noted (policy o) ua s) f.same_taken ∙ sym (noted_append (policy o) t s o.rows)
              ∙ ap (noted (policy o) o.rows) (sym (trace_next e));
          same_mark = mark_next e p.is_open ∙ sym closed;
          same_letter = lettered;
          fits = fits_next e d p.own;
          below = subst (λ x. So (acted_below o.users x)) (sym (trace_next e)) (below_append o.users t s f.below (below_next e d));
          ends = ends_next e was_open ∙ ap₂ ended (sym (trace_next e)) (sym closed);
          same_permissions = permissions ∙ f.same_permissions;
          same_workflow = workflow ∙ f.same_workflow;
          same_state = λ x. ap (state_after o) (trace_next e) ∙ state-next x e p.own;
          permitted = λ x. subst (λ y. So (authorized_all (permissions_of o) o.rows y)) (sym (trace_next e)) (permitted-next x e d p.own);
        }

    -- ── one step of a run ──
    -- what an event call with a workspace of this length leaves is well formed, and has document 01's letter
    module _ (w n : ℕ) where
      -- any workspace of that length
      abbrev lent : List ℕ
      lent = replicate n 0

      as_long : length lent ≡ n
      as_long = length-replicate n 0

      well_next : event_code m w n ≡ 0 → So (well_formed (event_monitor m w n))
      unfolding outcome
      well_next k = subst (λ x. So (well_formed (event_monitor m w x))) as_long (accepted_stays_well_formed m w lent f.places (ap (event_code m w) as_long ∙ k))

      letter_next : (event_monitor m w n).instance.status ≡ letter_of (event_monitor m w n).instance
      unfolding outcome
      letter_next = subst (λ x. (event_monitor m w x).instance.status ≡ letter_of (event_monitor m w x).instance) as_long (event_keeps_letter m w lent f.places f.same_letter)

    pub step : (w : ℕ) (n : Lengths) → Follows o (event_monitor m w (n 0)) (l ++ kept (step_of m w n))
    step w n = by_test (eqb (event_code m w (n 0)) 0) taken refused
      where
        e : Event
        e = event_in m w

        Left : Bool → Type 0
        Left b = Follows o (cond b (applied m e) m) (l ++ cond b (symbol_of e) [])

        taken : eqb (event_code m w (n 0)) 0 ≡ true → Left (eqb (event_code m w (n 0)) 0)
        taken k =
            let accepts = eqb-true (event_code m w (n 0)) 0 k in
            let p = accepted_has_passed m e (is_short w (n 0)) accepts in
            let h : So (well_formed (applied m e)) = rw k at (well_next w (n 0) accepts) in
            let lettered : (applied m e).instance.status ≡ letter_of (applied m e).instance = rw k at (letter_next w (n 0)) in
            rw k (follows_next e (is_short w (n 0)) p (declared c.users c.roles w) h lettered)

        refused : eqb (event_code m w (n 0)) 0 ≡ false → Left (eqb (event_code m w (n 0)) 0)
        refused k = rw k (subst (Follows o m) (sym (append-nil l)) f)

-- ── a whole run ──
pub follows_run : (o : Opening) → open_code o ≡ 0 → (ws : List ℕ) (n : Lengths) (m : Monitor) (l : List Symbol) → Follows o m l
    → Follows o (final m (run m ws n)) (l ++ accepted (run m ws n))
unfolding run
follows_run o z [] n m l f = subst (Follows o m) (sym (append-nil l)) f
follows_run o z (w ∷ ws) n m l f =
    let j = event_monitor m w (n 0) in
    let k = kept (step_of m w n) in
    subst (Follows o (final j (run j ws (from 1 n)))) (append_assoc l k (accepted (run j ws (from 1 n))))
    (follows_run o z ws (from 1 n) j (l ++ k) (step o z m l f w n))
