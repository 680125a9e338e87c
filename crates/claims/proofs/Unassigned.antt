-- What is noted for a user without a role is nothing, so that no list of actions with theirs is possible.
use mathlib.Core.Path.{◌≡◌, refl, sym, ap, ap₂, subst, ◌∙◌}
use mathlib.Core.Logic.{◌⊎◌, inl, inr, ◌≢◌}
use mathlib.Core.Bool.{Bool, true, false, not, cond, true≢false}
use mathlib.Core.List.{List, [], ◌∷◌, ◌++◌}
use Prim.Native.Nat.{ℕ, ◌≤◌, ◌<◌}
use lib.Dec.{leb, ltb}
use borrow.Author.Tests.{lt-leb, lt-ltb, ne_eqb, not-true}
use Rattle.soda.specs.Bits.{bit}
use Rattle.soda.specs.Terms.{Term}
use Rattle.soda.specs.Roles.{roles, authorized}
use Rattle.soda.specs.Tables.{possible, met_bits, note}
use Rattle.soda.specs.Traces.{business, Trace, upd, execution, noted}
use Rattle.soda.specs.declared.Action.{Action}
use Rattle.soda.proofs.Bools.{by_test, so_lt, lt_or_le}
use Rattle.soda.proofs.Workflows.{authorized-none}
use Rattle.soda.proofs.Bits.{bit_of_zero}
use Rattle.soda.proofs.Unassigned.{unassigned_notes_nothing, unmet_is_impossible, who_satisfies_holds-role}
use Rattle.policy.specs.Codes.{FULL, NOT_POSSIBLE, CLOSED, WORKSPACE, MONITOR, NOT_AUTHORIZED}
use Rattle.policy.specs.Refusals.{Refusals, ◌gives◌, code}
use Rattle.policy.proofs.Refusals.{clear, clear_behind}
use Rattle.units.specs.Units.{met_of}
use Rattle.units.proofs.Units.{unassigned_meets-none}
use Rattle.configuration.specs.Configurations.{held}
use Rattle.configuration.specs.declared.Configuration.{Configuration}
use Rattle.instance.specs.declared.Instance.{Instance}
use Rattle.instance.specs.Instances.{policy_of, taken_of, term, has_workflow, is_closed, noted_for}
use Rattle.instance.specs.Steps.{is_authorized, leads_to}
use Rattle.monitor.specs.declared.Monitor.{Monitor}
use Rattle.monitor.specs.Monitors.{policy, well_formed, admission}
use Rattle.monitor.specs.Events.{Event, Acts, Malformed, is_short, event_in, entry, tried, own_refusals, event_refusals, event_code}
use Rattle.monitor.specs.Enabled.{action_word, enabled_mask}
use Rattle.monitor.proofs.Reading.{Asks, asks, long-is_enough}
use Rattle.monitor.proofs.Enabling.{read_action, bit-is-action, no_other-bit}
use Rattle.claims.specs.Accuracy.{Run, history, trace_of, has_closed, business_events}
use Rattle.claims.specs.Ordered.{is_ordered, permissions_of, is_permitted}
use Rattle.claims.specs.Unassigned.{UnassignedGetsNine, unassigned_refusals, UnassignedIsTurnedAway, UnassignedMayNotAct, UnassignedIsInNoMultiset}
use Rattle.claims.proofs.Follows.{noted_append}
use Rattle.claims.proofs.Answers.{open_answer}
use Rattle.claims.proofs.Accuracy.{open_answer_lem}
use Rattle.claims.proofs.Multisets.{test-is-multiset}

-- an action that met nothing, behind others
nothing_possible : (φ : Term) (l : List Action) (a : Action) → a.met ≡ 0 → possible φ 0 (l ++ (a ∷ [])) ≡ false
nothing_possible φ l a e = unmet_is_impossible Action (λ a. a.user) (λ ψ k a. bit k a.met) φ 0 l [] a (λ ψ k. ap (bit k) e ∙ bit_of_zero k)

-- in a run that leaves the user without a role
module _ (r : Run) (u a : ℕ) where
  abbrev φ : Term
  φ = policy r.start

  abbrev t : Trace
  t = trace_of (history r)

  not-possible : roles (upd r.start.rows t) u ≡ 0 → possible φ 0 (noted φ r.start.rows (t ++ (business u a ∷ []))) ≡ false
  not-possible e =
      ap (possible φ 0) (noted_append φ t (business u a ∷ []) r.start.rows)
      ∙ nothing_possible φ (noted φ r.start.rows t) (note φ (execution (upd r.start.rows t) u)) (ap (met_bits φ u) e ∙ unassigned_notes_nothing φ u)

  not-permitted : roles (upd r.start.rows t) u ≡ 0 → is_permitted r.start t u a ≡ false
  not-permitted e = ap (λ h. authorized (permissions_of r.start) h a) e ∙ authorized-none (permissions_of r.start) a

pub unassigned_gets_nine : UnassignedGetsNine
unassigned_gets_nine r w u a n long q e still room =
    let l = history r in
    open_answer_lem r w n (long-is_enough w n long) (not-true (has_closed l) still) ∙ ap (open_answer r.start l) q
    ∙ by_test (is_ordered r.start)
    (λ h. rw (h, not-permitted r u a e))
    (λ h. rw (h, lt-leb 12 (business_events l) (so_lt (business_events l) 12 room), not-possible r u a e))

-- ── any monitor ──
module _ (m : Monitor) (u a n : ℕ) where
  abbrev c : Configuration
  c = m.configuration

  abbrev i : Instance
  i = m.instance

  -- the refusals behind 12, 15, 10 and 7
  abbrev own : Refusals
  own = (has_workflow i gives NOT_AUTHORIZED) ∷ (leb 12 i.taken gives FULL) ∷ (true gives NOT_POSSIBLE) ∷ []

  impossible : held c u ≡ 0 → possible (term i) 0 (tried c i u) ≡ false
  impossible e = nothing_possible (term i) (taken_of i) (noted_for c i u) (ap (met_of (policy_of i) u) e ∙ unassigned_meets-none (policy_of i) u)

  own_code : held c u ≡ 0 → code (own_refusals c i (Acts u a)) ≡ code own
  unfolding is_authorized leads_to
  own_code e =
      let none = ap (λ h. authorized c.permissions h a) e ∙ authorized-none c.permissions a in
      by_test (has_workflow i) (λ h. rw (h, none)) (λ h. rw (h, impossible e))

  answered : held c u ≡ 0 → code (event_refusals m (Acts u a) (ltb n 8192)) ≡ code (unassigned_refusals m u a n)
  unfolding event_refusals admission
  answered e = ap (λ k. cond (ltb n 8192) WORKSPACE (cond (not (well_formed m)) MONITOR (cond (is_closed i) CLOSED k))) (own_code e)

  -- the last one of the list applies
  refused : code (unassigned_refusals m u a n) ≢ 0
  unfolding admission
  refused z =
      let (closed, (malformed, (given, (full, (last, none))))) = clear_behind (admission m (ltb n 8192)) (entry i (Acts u a) ++ own) (clear (unassigned_refusals m u a n) refl z) in
      true≢false last

pub unassigned_is_turned_away : UnassignedIsTurnedAway
unassigned_is_turned_away m w u a n r e = (is, λ z. refused m u a n (sym is ∙ z))
  where
    -- an action's word asks for a workspace
    long : is_short w n ≡ ltb n 8192
    long = subst (Asks w n) r (asks m.configuration.users m.configuration.roles w n)

    is : event_code m w n ≡ code (unassigned_refusals m u a n)
    is = ap₂ (λ (e : Event) (b : Bool). code (event_refusals m e b)) r long ∙ answered m u a n e

pub unassigned_may_not_act : UnassignedMayNotAct
unassigned_may_not_act m u a n byte small e = by (lt_or_le u m.configuration.users)
  where
    by : (u < m.configuration.users) ⊎ (m.configuration.users ≤ u) → bit u (enabled_mask m n a) ≡ false
    by (inl l) =
        let r : event_in m (action_word u a) ≡ Acts u a = read_action u a byte small m.configuration.users m.configuration.roles ∙ ap (λ b. cond b (Acts u a) Malformed) (lt-ltb u m.configuration.users l) in
        bit-is-action m n u a byte small ∙ ne_eqb (event_code m (action_word u a) n) 0 (unassigned_is_turned_away m (action_word u a) u a n r e).1
    by (inr l) = no_other-bit m n u a l

pub unassigned_is_in_no_multiset : UnassignedIsInNoMultiset
unassigned_is_in_no_multiset o counts u n t e k = (test-is-multiset o counts n).1.1 (
  t,
  λ s. let (r, b) = who_satisfies_holds-role o.rows _ _ s u k in
      true≢false (sym b ∙ ap (bit r) e ∙ bit_of_zero r),
)
