-- Each part of a well-formed monitor stays as it has to be: rows below their limit under a bit set or cleared, noted bits among
-- those of unit terms, unused places zero.
use mathlib.Core.Path.{◌≡◌, refl, sym, ap, ap₂, ◌∙◌}
use mathlib.Core.Bool.{Bool, true, false, So, ◌&&◌, ◌||◌, cond}
use mathlib.Core.List.{List, [], ◌∷◌, map}
use mathlib.Core.Option.{Option, some, none}
use Prim.Native.Nat.{ℕ, zero, suc, ◌+◌, ◌-◌, ◌*◌, ◌^◌, ◌<◌}
use native.Mathlib.Numerals.{add-one}
use native.Mathlib.Omega.{arith}
use lib.Bits.{bit_and, and_zero_l, or_lt}
use lib.Dec.{ltb, eqb}
use lib.ListN.{length, get_or, take, drop, set as put, replicate, length-set}
use lib.Pow.{pow-lt}
use lib.Seq.{take-set-lt, drop-set-lt, drop-cons, get_or-take, take-append_seam, drop-append_seam}
use borrow.Author.Tests.{eqb-false, ne_eqb, leb-false, not-true, not-false}
use Rattle.soda.specs.Bits.{number, set_bit, clear_bit}
use Rattle.soda.specs.Lists.{all, padded}
use Rattle.soda.specs.Terms.{Term, unit, subterms}
use Rattle.soda.specs.Roles.{meets}
use Rattle.soda.specs.Tables.{satisfied}
use Rattle.soda.specs.Workflows.{is_somewhere}
use Rattle.soda.proofs.Bools.{and_split, and-join, so_lt, lt_so, eq_so, so_eq, by_test}
use Rattle.soda.proofs.Splits.{split_append, all_parts, all_replicate}
use Rattle.policy.specs.Words.{decode}
use Rattle.policy.specs.Reading.{length_ok, units_of}
use Rattle.units.specs.Units.{met_in, met_of}
use Rattle.policy.proofs.Refusals.{clear, clear_code}
use Rattle.configuration.specs.declared.Configuration.{Configuration}
use Rattle.instance.specs.declared.Instance.{Instance}
use Rattle.workflow.specs.declared.Workflow.{Workflow}
use Rattle.workflow.specs.Workflows.{is_given, workflow_ok}
use Rattle.workflow.specs.Laws.{Read}
use Rattle.workflow.proofs.Formed.{read_is-formed}
use Rattle.configuration.specs.Configurations.{assignment, held, with_permissions, with_row, is_zero, configuration_of}
use Rattle.instance.specs.Letters.{letter_c, letter_o, open_letter}
use Rattle.instance.specs.Instances.{policy_of, taken_of, term, is_closed, noted_for, instance_of, action_ok, is_idle, no_action, is_placed}
use Rattle.instance.specs.Steps.{leads_to, state_of}
use Rattle.monitor.specs.Monitors.{Opening, secure, open_code, fresh}
use Rattle.monitor.specs.Events.{Event, Acts, Grants, Revokes, Closes, Malformed, is_short, event_in, tried, own_refusals, advanced, applied, outcome}
use Rattle.monitor.specs.Laws.{Passed}
use Rattle.monitor.specs.Effects.{OpenedIsWellFormed, AcceptedStaysWellFormed, EventKeepsWellFormed}
use Rattle.monitor.specs.Private.{Entered}
use Rattle.configuration.proofs.Digits.{or_is-set, sub_is_clear}
use Rattle.configuration.proofs.Gathering.{number-and}
use Rattle.instance.proofs.Placing.{step_stays_placed}
use Rattle.monitor.proofs.Reading.{declared, entered}
use Rattle.monitor.proofs.Order.{accepted_has_passed}
use Rattle.configuration.proofs.Formed.{ConfigurationFormed, one_each}
use Rattle.instance.proofs.Formed.{InstanceFormed, words-few}
use Rattle.monitor.proofs.Formed.{Formed, formed, is_formed_lem, opens_clear, opens_read, opened-rows_ok}
use Rattle.monitor.proofs.Opening.{policy-refusals}
use Rattle.instance.proofs.Formed.{taken_more}

-- ── tests of all elements ──
module _ {A : Type 0} (f : A → Bool) where
  all_at : (l : List A) (k : ℕ) (d : A) → So (all f l) → k < length l → So (f (get_or l k d))
  all_at [] k d h n = absurd (omega arith)
  all_at (x ∷ l) zero d h n = (and_split (f x) (all f l) h).0
  all_at (x ∷ l) (suc k) d h n = all_at l k d (and_split (f x) (all f l) h).1 (omega arith)

  all-put : (l : List A) (k : ℕ) (a : A) → So (all f l) → So (f a) → So (all f (put l k a))
  all-put [] k a h p = refl
  all-put (x ∷ l) zero a h p = and-join (f a) (all f l) p (and_split (f x) (all f l) h).1
  all-put (x ∷ l) (suc k) a h p = let q = and_split (f x) (all f l) h in and-join (f x) (all f (put l k a)) q.0 (all-put l k a q.1 p)

-- ── noted bits are bits of unit terms ──
noted-units : {A : Type 0} (f g : A → Bool) (l : List A) → bit_and (number (map (λ x. g x && f x) l)) (number (map g l)) ≡ number (map (λ x. g x && f x) l)
noted-units {A = A} f g l = number-and (λ x. g x && f x) g l ∙ twice l
  where
    once : (p q : Bool) → (p && (p && q)) ≡ (p && q)
    once true q = refl
    once false q = refl

    twice : (l : List A) → number (map (λ x. g x && (g x && f x)) l) ≡ number (map (λ x. g x && f x) l)
    twice [] = refl
    twice (x ∷ l) = ap₂ (λ (b : Bool) (n : ℕ). cond b 1 0 + 2 * n) (once (g x) (f x)) (twice l)

met_units : (words : List ℕ) (u h : ℕ) → bit_and (met_of words u h) (units_of (decode words)) ≡ met_of words u h
unfolding met_of
met_units words u h = by_test (length_ok (length words)) (λ p. rw p (go (decode words))) (λ p. rw p (and_zero_l (units_of (decode words))))
  where
    go : (t : Option Term) → bit_and (met_in t u h) (units_of t) ≡ met_in t u h
    go none = refl
    go (some φ) = noted-units (λ ψ. meets ψ u h) unit (subterms φ)

-- ── rows below their limit ──
set_below : (r n h : ℕ) → r < n → h < 2 ^ n → set_bit r h < 2 ^ n
set_below r n h l b = rw (← or_is-set h r) (or_lt n h (2 ^ r) b (pow-lt l))

clear_below : (r n h : ℕ) → h < 2 ^ n → clear_bit r h < 2 ^ n
clear_below r n h b = rw (← sub_is_clear h r) (omega arith)

-- ── a configuration with another row ──
module _ (c : Configuration) (f : ConfigurationFormed c) where
  abbrev below : ℕ → Bool
  below h = ltb h (2 ^ c.roles)

  -- there is one row a user, each below its limit
  rows-each : So (eqb (length (assignment c)) c.users) × So (all below (assignment c))
  rows-each = and_split (eqb (length (assignment c)) c.users) (all below (assignment c)) f.rows_ok

  row_below : (u : ℕ) → u < c.users → held c u < 2 ^ c.roles
  row_below u l =
      let h = all_at below (assignment c) u 0 rows-each.1 (omega (arith, one_each c.users c.roles (assignment c) f.rows_ok)) in
      so_lt (held c u) (2 ^ c.roles) (rw (get_or-take c.users c.user_roles u 0 l) at h)

  row-formed : (u h : ℕ) → u < c.users → h < 2 ^ c.roles → ConfigurationFormed (with_row c u h)
  row-formed u h l b = record {
    counts = f.counts;
    rows_ok =
        rw (take-set-lt c.users c.user_roles u h l, length-set (assignment c) u h)
        (and-join (eqb (length (assignment c)) c.users) (all below (put (assignment c) u h)) rows-each.0
        (all-put below (assignment c) u h rows-each.1 (lt_so h (2 ^ c.roles) b)));
    rows_zero = rw (drop-set-lt c.users c.user_roles u h l) f.rows_zero;
    permissions_zero = f.permissions_zero;
  }

-- ── an instance over a configuration with another row, and with one more action ──
module _ (c : Configuration) (i : Instance) (f : InstanceFormed c i) where
  over-row : (u h : ℕ) → InstanceFormed (with_row c u h) i
  over-row u h = record {
    words_most = f.words_most;
    read = f.read;
    taken_most = f.taken_most;
    actions_ok = f.actions_ok;
    words_zero = f.words_zero;
    places_idle = f.places_idle;
    placed = f.placed;
    lettered = f.lettered;
  }

  action-formed : (u a : ℕ) → u < c.users → So (is_somewhere (leads_to i a)) → i.taken < 12 → length i.actions ≡ 12 → is_closed i ≡ false
      → InstanceFormed c (advanced c i (Acts u a))
  action-formed u a l goes free n is_open = record {
    words_most = f.words_most;
    read = f.read;
    taken_most = omega arith;
    actions_ok =
        let x = noted_for c i u in
        let units = units_of (decode (policy_of i)) in
        let ok = action_ok c.users units in
        let own = and-join (ltb u c.users) (eqb (bit_and x.met units) x.met) (lt_so u c.users l)
        (eq_so (bit_and x.met units) x.met (met_units (policy_of i) u (held c u))) in
        rw (taken_more i x (state_of (leads_to i a)) (omega arith)) (all_parts ok (split_append (taken_of i) (x ∷ [])) f.actions_ok (and-join (ok x) true own refl));
    words_zero = f.words_zero;
    places_idle =
        let t = i.taken in
        let within : t < length i.actions = omega arith in
        rw (drop-set-lt (t + 1) i.actions t (noted_for c i u) (omega arith), add-one)
        (and_split (is_idle (get_or i.actions t no_action)) (all is_idle (drop (suc t) i.actions)) (rw (drop-cons i.actions t no_action within) at f.places_idle)).1;
    placed = step_stays_placed c i (noted_for c i u) a f.placed goes;
    lettered = rw (is_open, ne_eqb (i.taken + 1) 0 (λ z. absurd (omega (arith, z)))) (one_of_two (satisfied (term i) 0 (tried c i u)));
  }
    where
      -- the letter of one that is not closed
      one_of_two : (b : Bool) → So (eqb (open_letter b) letter_o || (eqb (open_letter b) letter_c && true))
      one_of_two true = refl
      one_of_two false = refl

-- ── the statements ──
zeros : (k : ℕ) → So (all is_zero (replicate k 0))
zeros k = all_replicate is_zero k 0 refl

module _ (o : Opening) (e : open_code o ≡ 0) where
  abbrev over : Configuration
  over = with_permissions (configuration_of o.users o.roles o.rows) (secure o).permissions

  read : Read o.roles o.permissions o.workflow
  read = read_is-formed o.roles o.permissions o.workflow

  opened_configuration : ConfigurationFormed over
  opened_configuration = record {
    counts = (opens_read o e).counts;
    rows_ok = rw rows_taken (opened-rows_ok o e);
    rows_zero = rw (← n, drop-append_seam o.rows (replicate (16 - length o.rows) 0)) (zeros (16 - length o.rows));
    permissions_zero = read.past;
  }
    where
      n : length o.rows ≡ o.users
      n = one_each o.users o.roles o.rows (opened-rows_ok o e)

      rows_taken : take o.users (padded 16 o.rows) ≡ o.rows
      rows_taken = ap (λ (k : ℕ). take k (padded 16 o.rows)) (sym n) ∙ take-append_seam o.rows (replicate (16 - length o.rows) 0)

  opened_placed : So (is_placed over (instance_of o.words (secure o).workflow))
  opened_placed = and-join (workflow_ok (secure o).workflow) (state_ok (is_given (secure o).workflow)) read.formed
      (by_test (is_given (secure o).workflow) (λ g. rw g (lt_so 0 (secure o).workflow.states (given-some (secure o).workflow g))) (λ g. rw g (read.without g)))
    where
      state_ok : Bool → Bool
      state_ok b = cond b (ltb 0 (secure o).workflow.states) (true && all is_zero (secure o).permissions)

      given-some : (w : Workflow) → So (is_given w) → 0 < w.states
      given-some w g = let ne = eqb-false w.states 0 (not-true (eqb w.states 0) g) in omega (arith, ne)

  opened-instance : InstanceFormed over (instance_of o.words (secure o).workflow)
  opened-instance = record {
    words_most = words-few o.words (opens_read o e);
    read = rw (take-append_seam o.words (replicate (31 - length o.words) 0)) (clear_code (policy-refusals o) (opens_clear o e));
    taken_most = omega arith;
    actions_ok = refl;
    words_zero = rw (drop-append_seam o.words (replicate (31 - length o.words) 0)) (zeros (31 - length o.words));
    places_idle = refl;
    placed = opened_placed;
    lettered = refl;
  }

pub opened-is_well_formed : OpenedIsWellFormed
unfolding fresh
opened-is_well_formed o e = is_formed_lem (fresh o) (record { in_configuration = opened_configuration o e; in_instance = opened-instance o e })

pub accepted_stays_well_formed : AcceptedStaysWellFormed
unfolding outcome
accepted_stays_well_formed m w before n z =
    let e = event_in m w in
    let c = m.configuration in
    let p = accepted_has_passed m e (is_short w (length before)) z in
    rw z (is_formed_lem (applied m e) (go e p (formed m p.is_well) (entered c e (declared c.users c.roles w) p.in_layout)))
  where
    go : (e : Event) → Passed m e (is_short w (length before)) → Formed m → Entered m.configuration e → Formed (applied m e)
    go (Acts u a) p f d =
        let k = clear (own_refusals m.configuration m.instance (Acts u a)) refl p.own in
        record {
          in_configuration = f.in_configuration;
          in_instance = action-formed m.configuration m.instance f.in_instance u a d (not-false (is_somewhere (leads_to m.instance a)) k.1.0)
              (omega (arith, leb-false 12 m.instance.taken k.1.1.0)) n p.is_open;
        }
    go (Grants u r) p f d =
        let c = m.configuration in
        record {
          in_configuration = row-formed c f.in_configuration u (set_bit r (held c u)) d.0 (set_below r c.roles (held c u) d.1 (row_below c f.in_configuration u d.0));
          in_instance = over-row c m.instance f.in_instance u (set_bit r (held c u));
        }
    go (Revokes u r) p f d =
        let c = m.configuration in
        record {
          in_configuration = row-formed c f.in_configuration u (clear_bit r (held c u)) d.0 (clear_below r c.roles (held c u) (row_below c f.in_configuration u d.0));
          in_instance = over-row c m.instance f.in_instance u (clear_bit r (held c u));
        }
    go Closes p f d = record {
      in_configuration = f.in_configuration;
      in_instance = record {
        words_most = f.in_instance.words_most;
        read = f.in_instance.read;
        taken_most = f.in_instance.taken_most;
        actions_ok = f.in_instance.actions_ok;
        words_zero = f.in_instance.words_zero;
        places_idle = f.in_instance.places_idle;
        placed = f.in_instance.placed;
        lettered = refl;
      };
    }
    go Malformed p f d = absurd d

-- whatever an event answers
pub event_keeps_well_formed : EventKeepsWellFormed
unfolding outcome
event_keeps_well_formed m w before n h =
    by_test (eqb (outcome m w before).code 0) (λ t. accepted_stays_well_formed m w before n (so_eq (outcome m w before).code 0 t)) (λ f. rw f h)
