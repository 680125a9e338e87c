-- What a monitor that keeps step with its accepted events answers next: by the opening and those events alone.
use mathlib.Core.Path.{◌≡◌, refl, sym, ◌∙◌, ap, ap₂}
use mathlib.Core.Bool.{Bool, true, false, not, ◌&&◌, ◌||◌, cond}
use mathlib.Core.List.{List, [], ◌∷◌, ◌++◌}
use Prim.Native.Nat.{ℕ}
use lib.Dec.{leb, eqb}
use Rattle.soda.specs.Tables.{satisfied, possible}
use Rattle.soda.specs.Workflows.{is_somewhere}
use Rattle.soda.specs.Traces.{business, noted}
use Rattle.soda.specs.Processes.{Symbol}
use Rattle.soda.proofs.Bools.{by_test}
use Rattle.policy.specs.Codes.{ACCEPTED, MALFORMED, FULL, NOT_POSSIBLE, CLOSED, NOT_SATISFIED, NOT_AUTHORIZED, NO_TRANSITION}
use Rattle.policy.specs.Refusals.{code}
use Rattle.monitor.specs.declared.Monitor.{Monitor}
use Rattle.instance.specs.Instances.{taken_of, term, is_closed}
use Rattle.monitor.specs.Monitors.{Opening, policy, open_code, admission}
use Rattle.monitor.specs.Events.{Event, Acts, Grants, Revokes, Closes, Malformed, read_event, event_in, is_malformed, is_short, own_refusals, event_refusals, event_code}
use Rattle.instance.specs.Letters.{letter_d, letter_c, open_letter}
use Rattle.monitor.specs.Statuses.{status_code, status_letter}
use Rattle.monitor.specs.Laws.{Declared}
use Rattle.monitor.proofs.Reading.{declared}
use Rattle.claims.specs.Ordered.{is_ordered, leads_after, may_end, is_permitted}
use Rattle.claims.specs.Accuracy.{trace_of, has_closed, business_events}
use Rattle.claims.proofs.Follows.{Follows, satisfied-taken, possible-tried, same_number, may_is, goes_is, end_is}

-- the number of an event while no close has been accepted
abbrev pub open_answer : Opening → List Symbol → Event → ℕ
open_answer o l (Acts u a) =
    cond (not (not (is_ordered o) || is_permitted o (trace_of l) u a)) NOT_AUTHORIZED
    (cond (not (not (is_ordered o) || is_somewhere (leads_after o (trace_of l) a))) NO_TRANSITION
    (cond (leb 12 (business_events l)) FULL
    (cond (not (possible (policy o) 0 (noted (policy o) o.rows (trace_of l ++ (business u a ∷ []))))) NOT_POSSIBLE ACCEPTED)))
open_answer o l (Grants u r) = ACCEPTED
open_answer o l (Revokes u r) = ACCEPTED
open_answer o l Closes = cond (not (satisfied (policy o) 0 (noted (policy o) o.rows (trace_of l)) && may_end o (trace_of l))) NOT_SATISFIED ACCEPTED
open_answer o l Malformed = MALFORMED

abbrev pub answer_to : Opening → List Symbol → Event → ℕ
answer_to o l e = cond (has_closed l) CLOSED (open_answer o l e)

abbrev pub letter_after : Opening → List Symbol → ℕ
letter_after o l = cond (has_closed l) letter_d (open_letter (satisfied (policy o) 0 (noted (policy o) o.rows (trace_of l))))

module _ (o : Opening) (z : open_code o ≡ 0) (m : Monitor) (l : List Symbol) (f : Follows o m l) where
  pub same-event : (w : ℕ) → event_in m w ≡ read_event o.users o.roles w
  same-event w = ap₂ (λ x y. read_event x y w) f.same_users f.same_roles

  -- of a monitor that is not closed the letter says whether the taken actions satisfy
  letter_says : is_closed m.instance ≡ false → eqb m.instance.status letter_c ≡ satisfied (term m.instance) 0 (taken_of m.instance)
  letter_says k = ap (λ x. eqb x letter_c) is ∙ either (satisfied (term m.instance) 0 (taken_of m.instance))
    where
      is : m.instance.status ≡ open_letter (satisfied (term m.instance) 0 (taken_of m.instance))
      is = f.same_letter ∙ rw k

      either : (b : Bool) → eqb (open_letter b) letter_c ≡ b
      either true = refl
      either false = refl

  by_kind : is_closed m.instance ≡ false → (e : Event) → Declared m.configuration.users m.configuration.roles e
      → cond (is_malformed e) MALFORMED (code (own_refusals m.configuration m.instance e)) ≡ open_answer o l e
  by_kind k (Acts u a) d =
      rw (may_is o z m l f u a d, goes_is o z m l f a)
      (ap₂ (λ k b. steps (cond (leb 12 k) FULL (cond (not b) NOT_POSSIBLE ACCEPTED))) (sym (same_number o z m l f)) (possible-tried o z m l f u a d))
    where
      -- 16 and 17 in front
      steps : ℕ → ℕ
      steps k = cond (not (not (is_ordered o) || is_permitted o (trace_of l) u a)) NOT_AUTHORIZED (cond (not (not (is_ordered o) || is_somewhere (leads_after o (trace_of l) a))) NO_TRANSITION k)
  by_kind k (Grants u r) d = refl
  by_kind k (Revokes u r) d = refl
  by_kind k Closes d = ap₂ (λ b e. cond (not (b && e)) NOT_SATISFIED ACCEPTED) (letter_says k ∙ satisfied-taken o z m l f) (end_is o z m l f)
  by_kind k Malformed d = refl

  -- the tests in their order, where 12 and 15 do not apply
  in_order : (e : Event) (short : Bool) → short ≡ false
      → code (event_refusals m e short) ≡ cond (is_closed m.instance) CLOSED (cond (is_malformed e) MALFORMED (code (own_refusals m.configuration m.instance e)))
  unfolding event_refusals admission
  in_order e short long = rw (long, f.is_well)

  pub answered : (w n : ℕ) → is_short w n ≡ false → event_code m w n ≡ answer_to o l (read_event o.users o.roles w)
  answered w n long =
      in_order e (is_short w n) long
      ∙ by_test (is_closed m.instance)
      (λ t. rw (t, sym f.same_mark ∙ t))
      (λ k. rw (k, sym f.same_mark ∙ k) (by_kind k e (declared m.configuration.users m.configuration.roles w)))
      ∙ ap (answer_to o l) (same-event w)
    where
      e : Event
      e = event_in m w

  pub status-given : status_code m ≡ ACCEPTED
  status-given = rw f.is_well

  pub letter-given : status_letter m ≡ letter_after o l
  letter-given =
      rw status-given (f.same_letter ∙ ap₂ (λ b s. cond b letter_d (open_letter s)) f.same_mark (satisfied-taken o z m l f))
