-- An event's checks in order: 12 or 15 decides, then 10 or 7, then the event's own refusals.
use Rattle.std.specs.Prelude.{Some}
use mathlib.Core.Path.{◌≡◌, refl, sym, subst, ap, ◌∙◌}
use mathlib.Core.Logic.{◌≢◌}
use mathlib.Core.Bool.{Bool, true, false, So, not, cond, true≢false}
use mathlib.Core.List.{List, [], ◌∷◌, ◌++◌}
use Prim.Native.Nat.{ℕ, ◌≤◌, ◌<◌}
use native.Mathlib.Omega.{arith}
use lib.Dec.{eqb}
use lib.ListN.{length}
use borrow.Author.Tests.{le-leb, lt-leb, ne_eqb, not-true, not-false}
use Rattle.soda.specs.Lists.{all}
use Rattle.soda.specs.Tables.{possible}
use Rattle.soda.proofs.Bools.{never, and_split, eq_so}
use Rattle.policy.specs.Codes.{ACCEPTED, FULL, NOT_POSSIBLE, WORKSPACE}
use Rattle.policy.specs.Refusals.{code, Refusals, numbered, Clear}
use Rattle.policy.proofs.Refusals.{clear_code, code_front, code-behind}
use Rattle.configuration.specs.declared.Configuration.{Configuration}
use Rattle.instance.specs.declared.Instance.{Instance}
use Rattle.monitor.specs.declared.Monitor.{Monitor}
use Rattle.workspace.specs.Workspace.{filled}
use Rattle.instance.specs.Instances.{term, is_closed}
use Rattle.instance.specs.Steps.{is_authorized, leads_to, step_refusals}
use Rattle.monitor.specs.Monitors.{well_formed, monitor_refusals, admission}
use Rattle.monitor.specs.Events.{Event, Acts, Grants, Revokes, Closes, Malformed, is_short, event_in, is_malformed, entry, tried, trial_refusals, own_refusals, event_refusals, configured, taking, advanced, applied, workspace_after, event_code, Outcome, outcome}
use Rattle.monitor.specs.Laws.{WellFormedIsAdmitted, AcceptedHasPassed, CloseAsksNoWorkspace}
use Rattle.monitor.specs.Private.{InstanceOutcome, own_outcome, monitor_outcome}
use Rattle.monitor.proofs.Reading.{of_kind_four}

-- ── refusals in front of others ──
-- where two lists give 0, nothing in front applies, and the list behind gives 0
clear_both : (l m : Refusals) → So (numbered l) → code (l ++ m) ≡ 0 → Clear l × (code m ≡ 0)
clear_both [] m z e = (tt, e)
clear_both ((true, n) ∷ l) m z e = never (subst (λ (k : ℕ). So (not (eqb k 0))) e (and_split (not (eqb n 0)) (numbered l) z).0)
clear_both ((false, n) ∷ l) m z e =
    let r = clear_both l m (and_split (not (eqb n 0)) (numbered l) z).1 e in
    ((refl, r.0), r.1)

-- a number that is given is one of the list's
code_among : (f : ℕ → Bool) (l : Refusals) → So (all (λ r. f r.1) l) → code l ≢ 0 → So (f (code l))
code_among f [] z ne = absurd (ne refl)
code_among f ((true, n) ∷ l) z ne = (and_split (f n) (all (λ r. f r.1) l) z).0
code_among f ((false, n) ∷ l) z ne = code_among f l (and_split (f n) (all (λ r. f r.1) l) z).1 ne

-- ── numbers that leave the workspace ──
abbrev leaves : ℕ → Bool
leaves k = not (eqb k NOT_POSSIBLE)

pub workspace-kept : (c : Configuration) (i : Instance) (e : Event) (before : List ℕ) (k : ℕ) → eqb k 0 ≡ false → eqb k NOT_POSSIBLE ≡ false
    → workspace_after c i e k before ≡ before
workspace-kept c i (Acts u n) before k z p = rw (z, p)
workspace-kept c i (Grants u r) before k z p = refl
workspace-kept c i (Revokes u r) before k z p = refl
workspace-kept c i Closes before k z p = refl
workspace-kept c i Malformed before k z p = refl

-- ── a monitor that is admitted, an event that enters ──
pub admits : (m : Monitor) (short : Bool) → code (admission m short) ≡ 0 → (short ≡ false) × So (well_formed m)
unfolding admission
admits m short e =
    let k = (clear_both (admission m short) [] refl e).0 in
    (k.0, not-false (well_formed m) k.1.0)

pub well_formed-is_admitted : WellFormedIsAdmitted
unfolding admission
well_formed-is_admitted m w = rw w

-- 12 in front, then the check's number
pub admission_short : (m : Monitor) (short : Bool) → short ≡ true → code (admission m short) ≡ WORKSPACE
unfolding admission
admission_short m short e = rw e

pub admission_long : (m : Monitor) (short : Bool) → short ≡ false → code (admission m short) ≡ code (monitor_refusals m)
unfolding admission
admission_long m short e = rw e

pub checked_formed : (m : Monitor) → 0 ≡ code (monitor_refusals m) → So (well_formed m)
checked_formed m e = (admits m false (admission_long m false refl ∙ sym e)).1

pub enters : (i : Instance) (e : Event) → code (entry i e) ≡ 0 → (is_closed i ≡ false) × (is_malformed e ≡ false)
enters i e z = let k = (clear_both (entry i e) [] refl z).0 in (k.0, k.1.0)

module _ (m : Monitor) (e : Event) (short : Bool) where
  abbrev own_list : Refusals
  own_list = own_refusals m.configuration m.instance e

  -- behind them the event's own refusals decide
  pub goes_on : short ≡ false → So (well_formed m) → is_closed m.instance ≡ false → is_malformed e ≡ false → code (event_refusals m e short) ≡ code own_list
  unfolding event_refusals admission
  goes_on long w o l = rw (long, w, o, l)

pub accepted_has_passed : AcceptedHasPassed
unfolding event_refusals admission
accepted_has_passed m e short z =
    let own = own_list m e short in
    let k = clear_both (admission m short) (entry m.instance e ++ own) refl z in
    let a = admits m short (clear_code (admission m short) k.0) in
    let j = clear_both (entry m.instance e) own refl k.1 in
    let b = enters m.instance e (clear_code (entry m.instance e) j.0) in
    record { long = a.0; is_well = a.1; is_open = b.0; in_layout = b.1; own = j.1 }

-- ── what the checks give ──
module _ (m : Monitor) (w : ℕ) (before : List ℕ) where
  abbrev e : Event
  e = event_in m w

  abbrev short : Bool
  short = is_short w (length before)

  -- a refusal by a number that leaves everything
  refused_with : (k : ℕ) → k ≢ 0 → So (leaves k) → code (event_refusals m e short) ≡ k → record { code = k; monitor = m; workspace = before } ≡ outcome m w before
  unfolding outcome
  refused_with k ne l z =
      rw (
        z,
        ne_eqb k 0 ne,
        workspace-kept m.configuration m.instance e before k (ne_eqb k 0 ne) (not-true (eqb k NOT_POSSIBLE) l),
      )

  pub not_admitted : code (admission m short) ≢ 0 → record { code = code (admission m short); monitor = m; workspace = before } ≡ outcome m w before
  unfolding event_refusals admission
  not_admitted ne =
      refused_with (code (admission m short)) ne (code_among leaves (admission m short) refl ne)
      (code_front (admission m short) (entry m.instance e ++ own_list m e short) ne)

  module _ (clear-admission : code (admission m short) ≡ 0) where
    admission_clear : Clear (admission m short)
    unfolding admission
    admission_clear = (clear_both (admission m short) [] refl clear-admission).0

    pub not_entered : code (entry m.instance e) ≢ 0 → record { code = code (entry m.instance e); monitor = m; workspace = before } ≡ outcome m w before
    unfolding event_refusals
    not_entered ne =
        refused_with (code (entry m.instance e)) ne (code_among leaves (entry m.instance e) refl ne)
        (code-behind (admission m short) (entry m.instance e ++ own_list m e short) admission_clear ∙ code_front (entry m.instance e) (own_list m e short) ne)

    pub performed : code (entry m.instance e) ≡ 0 → monitor_outcome m e before ≡ outcome m w before
    unfolding outcome
    performed z =
        let a = admits m short clear-admission in
        let b = enters m.instance e z in
        rw (goes_on m e short a.0 a.1 b.0 b.1)

-- ── a word of kind 4 ──
pub close_asks_no_workspace : CloseAsksNoWorkspace
unfolding outcome event_refusals admission
close_asks_no_workspace m w before before' k = record {
  never_12 = λ z. of_kind_four Another users roles w k (another Closes refl) (another Malformed refl) (sym (at before) ∙ z);
  untouched = of_kind_four (λ x. workspace_after m.configuration m.instance x (event_code m w (length before)) before ≡ before) users roles w k refl refl;
  same_code = at before ∙ sym (at before');
  same_monitor = ap left (at before ∙ sym (at before'));
}
  where
    users : ℕ
    users = m.configuration.users

    roles : ℕ
    roles = m.configuration.roles

    -- no workspace is too short for it
    is-long : (l : List ℕ) → is_short w (length l) ≡ false
    is-long l = rw k

    at : (l : List ℕ) → event_code m w (length l) ≡ code (event_refusals m (event_in m w) false)
    at l = ap (λ (b : Bool). code (event_refusals m (event_in m w) b)) (is-long l)

    left : ℕ → Monitor
    left c = cond (eqb c 0) (applied m (event_in m w)) m

    -- no number of such an event is 12
    Another : Event → Type 0
    Another x = code (event_refusals m x false) ≢ WORKSPACE

    unlike : ℕ → Bool
    unlike c = not (eqb c WORKSPACE)

    behind : Event → Refusals
    behind x = monitor_refusals m ++ (entry m.instance x ++ own_refusals m.configuration m.instance x)

    another : (x : Event) → So (all (λ r. unlike r.1) (behind x)) → Another x
    another x h z =
        let ne : code (behind x) ≢ 0 = λ y. absurd (omega (arith, y, z)) in
        true≢false (sym (eq_so (code (behind x)) WORKSPACE z) ∙ not-true (eqb (code (behind x)) WORKSPACE) (code_among unlike (behind x) h ne))

-- ── an instance's outcome as the monitor's, where the configuration stays ──
module _ (m : Monitor) (e : Event) (before : List ℕ) (stays : configured m.configuration e ≡ m.configuration) where
  abbrev over : Instance → Monitor
  over i = record { configuration = m.configuration; instance = i }

  abbrev answered : ℕ → Monitor → List ℕ → Outcome
  answered k l after = record { code = k; monitor = l; workspace = after }

  moved : (b : Bool) → over (cond b (advanced m.configuration m.instance e) m.instance) ≡ cond b (applied m e) m
  moved true = rw stays
  moved false = refl

  pub lifted : (r : InstanceOutcome) → r ≡ own_outcome m.configuration m.instance e before
      → record { code = r.code; monitor = record { configuration = m.configuration; instance = r.instance }; workspace = r.workspace } ≡ monitor_outcome m e before
  lifted r z =
      let k = code (own_refusals m.configuration m.instance e) in
      ap (λ (x : InstanceOutcome). answered x.code (over x.instance) x.workspace) z
      ∙ ap (λ (l : Monitor). answered k l (workspace_after m.configuration m.instance e k before)) (moved (eqb k 0))

-- ── what an action and a close give to an instance, by their tests ──
module _ (c : Configuration) (i : Instance) (before : List ℕ) where
  module _ (u a : ℕ) where
    -- 16 and 17 leave everything
    pub acts_refused : (k : ℕ) → code (step_refusals c i u a) ≡ k → k ≢ 0 → record { code = k; instance = i; workspace = before } ≡ own_outcome c i (Acts u a) before
    acts_refused k e ne =
        let given : code (step_refusals c i u a) ≢ 0 = λ z. ne (sym e ∙ z) in
        let own : code (own_refusals c i (Acts u a)) ≡ k = code_front (step_refusals c i u a) (trial_refusals c i u) given ∙ e in
        let l = subst (λ (n : ℕ). So (leaves n)) e (code_among leaves (step_refusals c i u a) refl given) in
        rw (own, ne_eqb k 0 ne, not-true (eqb k NOT_POSSIBLE) l)

    module _ (s : ℕ) (may : is_authorized c i u a ≡ true) (leads : leads_to i a ≡ Some s) where
      pub acts_on_full : 12 ≤ i.taken → record { code = FULL; instance = i; workspace = before } ≡ own_outcome c i (Acts u a) before
      acts_on_full h = simp (may, leads, le-leb 12 i.taken h)

      module _ (free : i.taken < 12) (after : List ℕ) (w : after ≡ filled (term i) (tried c i u) before) where
        pub acts-not-possible : possible (term i) 0 (tried c i u) ≡ false
            → record { code = NOT_POSSIBLE; instance = i; workspace = after } ≡ own_outcome c i (Acts u a) before
        acts-not-possible p = simp (w, may, leads, lt-leb 12 i.taken free, p)

        pub acts : (j : Instance) → j ≡ taking c i u s → possible (term i) 0 (tried c i u) ≡ true
            → record { code = ACCEPTED; instance = j; workspace = after } ≡ own_outcome c i (Acts u a) before
        acts j e p = simp (w, e, may, leads, lt-leb 12 i.taken free, p)
