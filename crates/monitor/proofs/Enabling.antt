-- Who may act: what an action's word is read as, and what the trials give for the mask.
use mathlib.Core.Path.{◌≡◌, refl, sym, ◌∙◌, ap, ap₂, subst}
use mathlib.Core.Logic.{◌≢◌, ◌⊎◌, inl, inr}
use mathlib.Core.Bool.{Bool, true, false, So, not, ◌&&◌, ◌||◌, cond, and-false, true≢false}
use mathlib.Core.List.{List, map}
use Prim.Native.Nat.{ℕ, zero, suc, ◌-◌, ◌/◌, ◌%◌, ◌^◌, ◌≤◌, ◌<◌}
use native.Mathlib.Omega.{arith}
use lib.Dec.{leb, ltb, eqb, eqb-suc-zero}
use lib.ListN.{length, length-map, get_or-eq_default}
use borrow.Author.Tests.{le-leb, leb-true, leb-false, lt-leb, lt-ltb, le-ltb, ltb-false, ne_eqb}
use Rattle.soda.specs.Bits.{bit, number}
use Rattle.soda.specs.Lists.{range}
use Rattle.soda.specs.Tables.{possible}
use Rattle.soda.specs.Workflows.{is_somewhere}
use Rattle.soda.proofs.Bools.{by_test, and_split, so_lt, so_eq, eq_so, lt_or_le}
use Rattle.soda.proofs.Bits.{bit-number}
use Rattle.soda.proofs.Lists.{range_length, map_below, map_same}
use Rattle.policy.specs.Codes.{FULL, NOT_POSSIBLE, CLOSED, NOT_AUTHORIZED, NO_TRANSITION}
use Rattle.policy.specs.Kinds.{CLOSE}
use Rattle.policy.specs.Refusals.{code}
use Rattle.workspace.specs.Workspace.{filled}
use Rattle.workspace.specs.Trials.{Trials}
use Rattle.configuration.specs.declared.Configuration.{Configuration}
use Rattle.instance.specs.declared.Instance.{Instance}
use Rattle.instance.specs.Instances.{term, is_closed}
use Rattle.instance.specs.Steps.{is_authorized, leads_to}
use Rattle.configuration.specs.Permitted.{behind_last}
use Rattle.instance.specs.Candidates.{is_candidate}
use Rattle.configuration.proofs.Formed.{users_most}
use Rattle.configuration.proofs.Gathering.{number_short}
use Rattle.monitor.specs.declared.Monitor.{Monitor}
use Rattle.monitor.specs.Monitors.{well_formed, admission}
use Rattle.monitor.specs.Events.{Event, Acts, Malformed, read_event, is_short, event_in, is_malformed, tried, event_code, entry, workspace_after, Outcome, outcome}
use Rattle.monitor.specs.Enabled.{Users, Refused, action_word, may_act, enabled_mask, gets_trial, behind_trials, left_by, enabled_of, BitIsAction, NoOtherBit, ClosedOrFullIsNobody, RefusalKeepsMask}
use Rattle.monitor.specs.Private.{each_tried, monitor_outcome}
use Rattle.monitor.proofs.Formed.{formed}
use Rattle.monitor.proofs.Order.{admits, accepted_has_passed, not_admitted, not_entered, performed, close_asks_no_workspace}
use Rattle.monitor.proofs.Effects.{refusal_alters_nothing}
use Rattle.monitor.proofs.Candidates.{behind, behind-declared, past, last-is, can_act_lem, tried_to, each-tried}

-- ── the word of an action ──
module _ (u a : ℕ) (h : u < 256) (k : a < 256) where
  no_high : action_word u a / 2 ^ 16 % 2 ^ 8 ≡ 0
  no_high = omega arith

  pub its_kind : action_word u a / 2 ^ 24 ≡ 1
  its_kind = omega arith

  its_user : action_word u a / 2 ^ 8 % 2 ^ 8 ≡ u
  its_user = omega arith

  its_number : action_word u a % 2 ^ 8 ≡ a
  its_number = omega arith

  pub read_action : (users roles : ℕ) → read_event users roles (action_word u a) ≡ cond (ltb u users) (Acts u a) Malformed
  unfolding read_event
  read_action users roles = rw (no_high, its_kind, its_user, its_number)

-- ── an action's number, by its tests ──
abbrev numbered : Bool → Bool → Bool → Bool → ℕ
numbered p q f b = cond (not p) NOT_AUTHORIZED (cond (not q) NO_TRANSITION (cond f FULL (cond (not b) NOT_POSSIBLE 0)))

accepted_by : (p q b : Bool) → eqb (numbered p q false b) 0 ≡ ((q && p) && b)
accepted_by true true true = refl
accepted_by true true false = refl
accepted_by true false b = refl
accepted_by false true b = refl
accepted_by false false b = refl

full_by : (p q b : Bool) → eqb (numbered p q true b) 0 ≡ false
full_by true true b = refl
full_by true false b = refl
full_by false q b = refl

tried_by : (p q f b : Bool) → not (eqb (numbered p q f b) NOT_AUTHORIZED || eqb (numbered p q f b) NO_TRANSITION) ≡ (q && p)
tried_by true true true b = refl
tried_by true true false true = refl
tried_by true true false false = refl
tried_by true false f b = refl
tried_by false true f b = refl
tried_by false false f b = refl

-- ── the mask ──
-- nobody
no_digit_lem : (n : ℕ) (f : ℕ → Bool) → ((u : ℕ) → u < n → f u ≡ false) → number (map f (range 0 n)) ≡ 0
no_digit_lem n f h = ap number (map_same false n f (λ u. false) h) ∙ number_short (λ u. false) 0 0 n (omega arith) (λ u l. refl)

module _ (m : Monitor) (n a : ℕ) where
  nobody : ((u : ℕ) → u < m.configuration.users → event_code m (action_word u a) n ≢ 0) → enabled_mask m n a ≡ 0
  unfolding enabled_mask
  nobody h = no_digit_lem m.configuration.users (may_act m n a) (λ u b. ne_eqb (event_code m (action_word u a) n) 0 (h u b))

-- where no word touches the workspace, no trial does
untouched : (m : Monitor) (a : ℕ) (before : List ℕ) → ((w : ℕ) → before ≡ (outcome m w before).workspace) → (k : ℕ) → before ≡ left_by m k a before
untouched m a before h k = by_test (eqb k 0) (λ t. rw t) (λ f. rw f (h (action_word (k - 1) a)))

-- ── 12 and 15, for each word as for the call ──
abbrev too_short : List ℕ → Bool
too_short before = ltb (length before) 8192

-- where the call is admitted, a word is
module _ (m : Monitor) (before : List ℕ) (ok : code (admission m (too_short before)) ≡ 0) where
  word_admitted : (w : ℕ) → code (admission m (is_short w (length before))) ≡ 0
  word_admitted w = subst (λ b. code (admission m b) ≡ 0) (sym (is (admits m (too_short before) ok).0)) ok
    where
      is : too_short before ≡ false → is_short w (length before) ≡ too_short before
      is f = rw f (and-false (not (eqb (w / 2 ^ 24) CLOSE)))

-- where 12 or 15 applies, nothing is judged
module _ (m : Monitor) (before : List ℕ) (ne : code (admission m (too_short before)) ≢ 0) where
  not_so_for : (w : ℕ) → is_short w (length before) ≡ too_short before → code (admission m (is_short w (length before))) ≢ 0
  not_so_for w e = subst (λ b. code (admission m b) ≢ 0) (sym e) ne

  refused_left : (w : ℕ) → before ≡ (outcome m w before).workspace
  refused_left w = by_test (eqb (w / 2 ^ 24) CLOSE)
      (λ t. sym (close_asks_no_workspace m w before before (so_eq (w / 2 ^ 24) CLOSE t)).untouched)
      (λ f. ap (λ (o : Outcome). o.workspace) (not_admitted m w before (not_so_for w (rw f))))

  -- a word that is not admitted is not accepted
  refused : (w : ℕ) → code (admission m (is_short w (length before))) ≢ 0 → event_code m w (length before) ≢ 0
  unfolding outcome
  refused w p e = p (ap (λ (o : Outcome). o.code) (not_admitted m w before p) ∙ e)

  refused_all : (u a : ℕ) → u < m.configuration.users → a < 256 → event_code m (action_word u a) (length before) ≢ 0
  refused_all u a d byte = refused (action_word u a) (by_test (well_formed m)
      (λ t. not_so_for (action_word u a) (asks t))
      (λ f z. true≢false (sym (admits m (is_short (action_word u a) (length before)) z).1 ∙ f)))
    where
      asks : So (well_formed m) → is_short (action_word u a) (length before) ≡ too_short before
      asks t = rw (its_kind u a (omega (arith, d, users_most m.configuration (formed m t).in_configuration)) byte)

  pub enabled_refused : (a : ℕ) → record { answer = Refused (code (admission m (too_short before))); workspace = before } ≡ enabled_of m a before
  unfolding enabled_of
  enabled_refused a = ap₂ (λ b w. record { answer = cond b (Users (enabled_mask m (length before) a)) (Refused (code (admission m (too_short before)))); workspace = w })
      (sym (ne_eqb (code (admission m (too_short before))) 0 ne)) (untouched m a before refused_left (behind_trials m (length before) a))

module _ (m : Monitor) (before : List ℕ) (ok : code (admission m (too_short before)) ≡ 0) (a : ℕ) where
  -- the answer, from what it is put together from
  put : (mask : ℕ) (after : List ℕ) → mask ≡ enabled_mask m (length before) a → after ≡ left_by m (behind_trials m (length before) a) a before
      → record { answer = Users mask; workspace = after } ≡ enabled_of m a before
  unfolding enabled_of
  put mask after p q = rw (ok) (ap₂ (λ x w. record { answer = Users x; workspace = w }) p q)

  -- a closed monitor refuses every word
  module _ (closed : is_closed m.instance ≡ true) where
    not_entered_all : (w : ℕ) → record { code = CLOSED; monitor = m; workspace = before } ≡ outcome m w before
    not_entered_all w =
        let z : code (entry m.instance (event_in m w)) ≡ CLOSED = rw closed in
        subst (λ k. record { code = k; monitor = m; workspace = before } ≡ outcome m w before) z (not_entered m w before (word_admitted m before ok w) (λ e. absurd (omega (arith, sym z ∙ e))))

    closed_left : before ≡ left_by m (behind_trials m (length before) a) a before
    closed_left = untouched m a before (λ w. ap (λ (o : Outcome). o.workspace) (not_entered_all w)) (behind_trials m (length before) a)

    closed_nobody : enabled_mask m (length before) a ≡ 0
    unfolding outcome
    closed_nobody = nobody m (length before) a
        (λ u b e. let z = ap (λ (o : Outcome). o.code) (not_entered_all (action_word u a)) ∙ e in absurd (omega arith))

    pub enabled_closed : record { answer = Users 0; workspace = before } ≡ enabled_of m a before
    enabled_closed = put 0 before (sym closed_nobody) closed_left

  -- an open one judges an action of each user
  module _ (is_open : is_closed m.instance ≡ false) (byte : a < 256) where
    abbrev c : Configuration
    c = m.configuration

    abbrev i : Instance
    i = m.instance

    few : c.users ≤ 16
    few = users_most c (formed m (admits m (too_short before) ok).1).in_configuration

    acted : (u : ℕ) → u < c.users → monitor_outcome m (Acts u a) before ≡ outcome m (action_word u a) before
    acted u h =
        let is : event_in m (action_word u a) ≡ Acts u a = read_action u a (omega (arith, few)) byte c.users c.roles ∙ rw (lt-ltb u c.users h) in
        let enters : code (entry i (event_in m (action_word u a))) ≡ 0 = ap (λ e. code (entry i e)) is ∙ rw is_open in
        subst (λ e. monitor_outcome m e before ≡ outcome m (action_word u a) before) is (performed m (action_word u a) before (word_admitted m before ok (action_word u a)) enters)

    abbrev its_code : ℕ → ℕ
    its_code u = numbered (is_authorized c i u a) (is_somewhere (leads_to i a)) (leb 12 i.taken) (possible (term i) 0 (tried c i u))

    own : (u : ℕ) → u < c.users → event_code m (action_word u a) (length before) ≡ its_code u
    unfolding outcome
    own u h = ap (λ (o : Outcome). o.code) (sym (acted u h))

    left : (u : ℕ) → u < c.users → (outcome m (action_word u a) before).workspace ≡ workspace_after c i (Acts u a) (its_code u) before
    left u h = ap (λ (o : Outcome). o.workspace) (sym (acted u h))

    -- a declared user is a candidate where neither 16 nor 17 applies
    declared-is : (u : ℕ) → u < c.users → is_candidate c i a u ≡ (is_somewhere (leads_to i a) && is_authorized c i u a)
    declared-is u h = rw (lt-ltb u c.users h)

    gets_trial_lem : (u : ℕ) → u < c.users → gets_trial m (length before) a u ≡ is_candidate c i a u
    gets_trial_lem u h =
        ap (λ k. not (eqb k NOT_AUTHORIZED || eqb k NO_TRANSITION)) (own u h)
        ∙ tried_by (is_authorized c i u a) (is_somewhere (leads_to i a)) (leb 12 i.taken) (possible (term i) 0 (tried c i u)) ∙ sym (declared-is u h)

    behind-is : behind_trials m (length before) a ≡ behind c i a
    unfolding behind_trials
    behind-is = ap behind_last (map_same false c.users (gets_trial m (length before) a) (is_candidate c i a) gets_trial_lem)

    may_act_lem : (u : ℕ) → u < c.users → leb 12 i.taken ≡ false → may_act m (length before) a u ≡ can_act_lem c i a u
    may_act_lem u h f =
        ap (λ k. eqb k 0) (own u h ∙ ap (λ x. numbered (is_authorized c i u a) (is_somewhere (leads_to i a)) x (possible (term i) 0 (tried c i u))) f)
        ∙ accepted_by (is_authorized c i u a) (is_somewhere (leads_to i a)) (possible (term i) 0 (tried c i u))
        ∙ ap (λ b. b && possible (term i) 0 (tried c i u)) (sym (declared-is u h))

    may_not : (u : ℕ) → u < c.users → leb 12 i.taken ≡ true → may_act m (length before) a u ≡ false
    may_not u h f =
        ap (λ k. eqb k 0) (own u h ∙ ap (λ x. numbered (is_authorized c i u a) (is_somewhere (leads_to i a)) x (possible (term i) 0 (tried c i u))) f)
        ∙ full_by (is_authorized c i u a) (is_somewhere (leads_to i a)) (possible (term i) 0 (tried c i u))

    mask_is : enabled_mask m (length before) a ≡ (tried_to c i a (behind c i a) before).mask
    unfolding enabled_mask
    mask_is = by_test (ltb i.taken 12) free (λ f. rw f (no_digit_lem c.users (may_act m (length before) a) (λ u h. may_not u h (le-leb 12 i.taken (ltb-false i.taken 12 f)))))
      where
        same : ltb i.taken 12 ≡ true → number (map (may_act m (length before) a) (range 0 c.users)) ≡ number (map (can_act_lem c i a) (range 0 c.users))
        same f = ap number (map_same false c.users (may_act m (length before) a) (can_act_lem c i a) (λ u h. may_act_lem u h (lt-leb 12 i.taken (so_lt i.taken 12 f))))

        free : ltb i.taken 12 ≡ true → number (map (may_act m (length before) a) (range 0 c.users)) ≡ (tried_to c i a (behind c i a) before).mask
        free f = by_test (leb 1 (behind c i a)) (λ s. rw (f, s) (same f))
            (λ z. rw (f, z) (same f ∙ no_digit_lem c.users (can_act_lem c i a) (λ u h. ap (λ b. b && possible (term i) 0 (tried c i u)) (past c i a u (omega (arith, leb-false 1 (behind c i a) z))))))

    -- the workspace after the last candidate's trial
    module _ (j : ℕ) (e : behind c i a ≡ suc j) where
      is_declared : j < c.users
      is_declared = omega (arith, behind-declared c i a, e)

      goes : So (is_somewhere (leads_to i a) && is_authorized c i j a)
      goes = sym (declared-is j is_declared) ∙ last-is c i a j e

      last_free : leb 12 i.taken ≡ false → workspace_after c i (Acts j a) (its_code j) before ≡ filled (term i) (tried c i j) before
      last_free f =
          let (q, p) = and_split (is_somewhere (leads_to i a)) (is_authorized c i j a) goes in
          by_test (possible (term i) 0 (tried c i j)) (λ b. rw (p, q, f, b)) (λ b. rw (p, q, f, b))

      last_full : leb 12 i.taken ≡ true → workspace_after c i (Acts j a) (its_code j) before ≡ before
      last_full f =
          let (q, p) = and_split (is_somewhere (leads_to i a)) (is_authorized c i j a) goes in
          rw (p, q, f)

    left_is : left_by m (behind_trials m (length before) a) a before ≡ (tried_to c i a (behind c i a) before).workspace
    left_is = ap (λ k. left_by m k a before) behind-is ∙ by (behind c i a) refl
      where
        by : (k : ℕ) → behind c i a ≡ k → left_by m k a before ≡ (tried_to c i a k before).workspace
        by zero e = rw (and-false (ltb i.taken 12))
        by (suc j) e =
            let n : suc j - 1 ≡ j = omega arith in
            let some = le-leb 1 (suc j) (omega arith) in
            let trial = ap (λ u. (outcome m (action_word u a) before).workspace) n ∙ left j (is_declared j e) in
            by_test (ltb i.taken 12)
            (λ f. rw (eqb-suc-zero j, some, f)
            (trial ∙ last_free j e (lt-leb 12 i.taken (so_lt i.taken 12 f)) ∙ ap (λ u. filled (term i) (tried c i u) before) (sym n)))
            (λ f. rw (eqb-suc-zero j, some, f) (trial ∙ last_full j e (le-leb 12 i.taken (ltb-false i.taken 12 f))))

    pub enabled_tried : (mask : ℕ) (after : List ℕ) → record { mask = mask; workspace = after } ≡ each_tried c i a before → record { answer = Users mask; workspace = after } ≡ enabled_of m a before
    enabled_tried mask after e =
        let are = e ∙ each-tried c i a few before in
        put mask after (ap (λ (t : Trials). t.mask) are ∙ sym mask_is) (ap (λ (t : Trials). t.workspace) are ∙ sym left_is)

    full_nobody : So (leb 12 i.taken) → (enabled_mask m (length before) a ≡ 0) × (left_by m (behind_trials m (length before) a) a before ≡ before)
    full_nobody f = let g = le-ltb i.taken 12 (leb-true 12 i.taken f) in (mask_is ∙ rw g, left_is ∙ rw g)

pub closed_or_full_is_nobody : ClosedOrFullIsNobody
unfolding enabled_of
closed_or_full_is_nobody m a before byte h =
    by_test (eqb first 0)
    (λ e. admitted (so_eq first 0 e))
    (λ e. let ne : first ≢ 0 = λ z. true≢false (sym (eq_so first 0 z) ∙ e) in
    (nobody m (length before) a (λ u b. refused_all m before ne u a b byte), sym (untouched m a before (refused_left m before ne) (behind_trials m (length before) a))))
  where
    first : ℕ
    first = code (admission m (too_short before))

    admitted : first ≡ 0 → (enabled_mask m (length before) a ≡ 0) × (left_by m (behind_trials m (length before) a) a before ≡ before)
    admitted ok =
        by_test (is_closed m.instance)
        (λ k. (closed_nobody m before ok a k, sym (closed_left m before ok a k)))
        (λ k. full_nobody m before ok a k byte (rw k at h))

-- ── its bits ──
pub no_other-bit : NoOtherBit
unfolding enabled_mask
no_other-bit m n u a h =
    let digits = map (may_act m n a) (range 0 m.configuration.users) in
    bit-number digits u
    ∙ get_or-eq_default digits false (omega (arith, length-map (range 0 m.configuration.users) (may_act m n a), range_length 0 m.configuration.users))

pub bit-is-action : BitIsAction
unfolding enabled_mask
bit-is-action m n u a h k = by (lt_or_le u m.configuration.users)
  where
    e : Event
    e = event_in m (action_word u a)

    undeclared : m.configuration.users ≤ u → is_malformed e ≡ false → ⊥
    undeclared d z =
        let is : e ≡ Malformed = read_action u a h k m.configuration.users m.configuration.roles ∙ rw (le-ltb u m.configuration.users d) in
        true≢false (sym (ap is_malformed is) ∙ z)

    by : (u < m.configuration.users) ⊎ (m.configuration.users ≤ u) → bit u (enabled_mask m n a) ≡ eqb (event_code m (action_word u a) n) 0
    by (inl d) = bit-number (map (may_act m n a) (range 0 m.configuration.users)) u ∙ map_below (may_act m n a) false m.configuration.users u d
    by (inr d) = no_other-bit m n u a d ∙ sym (ne_eqb (event_code m (action_word u a) n) 0 (λ z. undeclared d (accepted_has_passed m e (is_short (action_word u a) n) z).in_layout))

pub refusal_keeps_mask : RefusalKeepsMask
refusal_keeps_mask m w before n a ne = ap (λ x. enabled_mask x n a) (refusal_alters_nothing m w before ne).0
