-- Unassigned users, who hold no role: they never had one, or have lost the last (document 02, E3: "A leaver must not pass"). Under any policy.
-- Statements only.
use Rattle.std.specs.Prelude.{◌≡◌, ◌≢◌, true, false, not, cond, List, [], ◌∷◌, ◌++◌, ℕ, ◌≤◌, ◌<◌, leb, ltb, get_or}
use Rattle.std.proofs.Math.Bool.{So}
use Rattle.soda.specs.Bits.{bit}
use Rattle.soda.specs.Roles.{roles}
use Rattle.soda.specs.Traces.{upd}
use Rattle.policy.specs.Codes.{ACCEPTED, FULL, NOT_POSSIBLE, NOT_AUTHORIZED}
use Rattle.policy.specs.Refusals.{Refusals, ◌gives◌, code}
use Rattle.configuration.specs.Configurations.{held}
use Rattle.instance.specs.Instances.{has_workflow}
use Rattle.monitor.specs.declared.Monitor.{Monitor}
use Rattle.monitor.specs.Monitors.{Opening, admission}
use Rattle.monitor.specs.Events.{Acts, event_in, entry, event_code}
use Rattle.monitor.specs.Enabled.{enabled_mask}
use Rattle.multiset.specs.MultisetTest.{letter_n, test_of}
use Rattle.claims.specs.Ordered.{is_ordered}
use Rattle.claims.specs.Accuracy.{Run, left, history, next, trace_of, has_closed, has_room, Testable}

-- In a run, an action by a user who holds no role after its grants and revocations is answered 16 where permissions are given, and else 9,
-- where no close has been accepted and fewer than twelve actions have.
abbrev pub UnassignedGetsNine : Type 0
UnassignedGetsNine =
    (r : Run) (w u a n : ℕ) → 8192 ≤ n → next r w ≡ Acts u a → roles (upd r.start.rows (trace_of (history r))) u ≡ 0
    → So (not (has_closed (history r))) → So (has_room (history r) (Acts u a))
    → event_code (left r) w n ≡ cond (is_ordered r.start) NOT_AUTHORIZED NOT_POSSIBLE

-- On any monitor: 12, 15 and 10 as for anybody else; with permissions 16 for all that is left, without them 8 as for anybody else, and 9;
-- n is the length of the workspace.
abbrev pub unassigned_refusals : Monitor → ℕ → ℕ → ℕ → Refusals
unassigned_refusals m u a n =
    admission m (ltb n 8192)
    ++ (entry m.instance (Acts u a)
    ++ ((has_workflow m.instance gives NOT_AUTHORIZED) ∷ (leb 12 m.instance.taken gives FULL) ∷ (true gives NOT_POSSIBLE) ∷ []))

-- An action by a user who holds no role there is answered so, which is never 0 ..
abbrev pub UnassignedIsTurnedAway : Type 0
UnassignedIsTurnedAway =
    (m : Monitor) (w u a n : ℕ) → event_in m w ≡ Acts u a → held m.configuration u ≡ 0
    → (event_code m w n ≡ code (unassigned_refusals m u a n)) × (event_code m w n ≢ ACCEPTED)

-- .. the user, a byte, is not among those who may act ..
abbrev pub UnassignedMayNotAct : Type 0
UnassignedMayNotAct = (m : Monitor) (u a n : ℕ) → u < 256 → a < 256 → held m.configuration u ≡ 0 → bit u (enabled_mask m n a) ≡ false

-- .. and a multiset in which the user occurs gets the answer no.
abbrev pub UnassignedIsInNoMultiset : Type 0
UnassignedIsInNoMultiset =
    (o : Opening) (counts : List ℕ) (u n : ℕ) → Testable o counts n → roles o.rows u ≡ 0 → 1 ≤ get_or counts u 0 → (test_of o counts n).letter ≡ letter_n
