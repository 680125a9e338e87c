-- Two monitors whose policies exchanging, regrouping and spreading relate, and that keep step with the same accepted events, give the next
-- event the same number and have the same status.
use mathlib.Core.Path.{◌≡◌, refl, sym, ◌∙◌, ap, ap₂, subst}
use mathlib.Core.Bool.{Bool, true, false, not, ◌&&◌, ◌||◌, cond}
use mathlib.Core.List.{List, [], ◌∷◌, ◌++◌}
use Prim.Native.Nat.{ℕ}
use lib.Dec.{leb, eqb}
use Rattle.soda.specs.Tables.{Execution, satisfied, possible, judge}
use Rattle.soda.specs.Traces.{business, Trace, executed, noted}
use Rattle.soda.specs.Workflows.{is_somewhere}
use Rattle.soda.specs.Processes.{Symbol}
use Rattle.soda.specs.Rewriting.{Rewrite, RuleSteps}
use Rattle.soda.proofs.Bools.{by_test, so_eq}
use Rattle.soda.proofs.Notes.{noted-is_meant}
use Rattle.soda.proofs.Joins.{rewrites_keep_judgement}
use Rattle.policy.specs.Codes.{ACCEPTED, FULL, NOT_POSSIBLE, CLOSED, NOT_SATISFIED, NOT_AUTHORIZED, NO_TRANSITION}
use Rattle.policy.specs.Refusals.{code}
use Rattle.monitor.specs.declared.Monitor.{Monitor}
use Rattle.monitor.specs.Monitors.{Opening, given, policy, open_code, opened}
use Rattle.monitor.specs.Events.{Event, Acts, Grants, Revokes, Closes, Malformed, read_event, is_short, event_in, event_refusals, applied, event_code, event_monitor}
use Rattle.instance.specs.Letters.{letter_d, open_letter}
use Rattle.monitor.specs.Statuses.{status_code, status_letter}
use Rattle.monitor.specs.Runs.{Lengths, EnoughFor, from, Step, step_of, run}
use Rattle.claims.specs.Runs.{symbol_of, kept, lines}
use Rattle.claims.specs.Ordered.{is_ordered, leads_after, may_end, is_permitted}
use Rattle.claims.specs.Accuracy.{trace_of, has_closed, business_events}
use Rattle.claims.specs.EqualForms.{AnsweredAlike}
use Rattle.claims.specs.Spreading.{NumberedAlike}
use Rattle.claims.proofs.Follows.{formed-policy, Follows, follows_opened, step}
use Rattle.claims.proofs.Answers.{open_answer, answer_to, letter_after, same-event, answered, status-given, letter-given}

-- ── one monitor, two rows of workspaces ──
-- an event where its workspace is too short, or not
step_if : Monitor → ℕ → Bool → Step
step_if m x b =
    let k = code (event_refusals m (event_in m x) b) in
    let left = cond (eqb k 0) (applied m (event_in m x)) m in
    record { event = event_in m x; code = k; left = left; status_code = status_code left; letter = status_letter left }

same-run : (ws : List ℕ) (n n' : Lengths) → EnoughFor ws n → EnoughFor ws n' → (m : Monitor) → run m ws n ≡ run m ws n'
unfolding run step_if
same-run [] n n' long long' m = refl
same-run (x ∷ ws) n n' long long' m =
    ap (λ b. step_if m x b ∷ run (step_if m x b).left ws (from 1 n)) (long.0 ∙ sym long'.0)
    ∙ ap (λ (l : List Step). step_if m x (is_short x (n' 0)) ∷ l) (same-run ws (from 1 n) (from 1 n') long.1 long'.1 (event_monitor m x (n' 0)))

-- two openings over the same counts, grants, permissions and workflow
module _ (users roles : ℕ) (v w rows permissions workflow : List ℕ) where
  abbrev o : Opening
  o = given users roles v rows permissions workflow

  abbrev o' : Opening
  o' = given users roles w rows permissions workflow

  module _ (p : open_code o ≡ 0) (q : open_code o' ≡ 0) (related : RuleSteps Rewrite (policy o) (policy o')) where
    -- both columns are the same functions of what the trace's actions mean
    same_meant : (e : Bool) (t : Trace) → judge e (policy o) (executed rows t) ≡ judge e (policy o') (executed rows t)
    same_meant e t = ap (λ (f : List Execution → Bool). f (executed rows t)) (rewrites_keep_judgement (policy o) (policy o') related e)

    same-satisfied : (t : Trace) → satisfied (policy o) 0 (noted (policy o) rows t) ≡ satisfied (policy o') 0 (noted (policy o') rows t)
    same-satisfied t =
        (noted-is_meant (policy o) (formed-policy o p) (executed rows t)).0 ∙ same_meant false t ∙ sym (noted-is_meant (policy o') (formed-policy o' q) (executed rows t)).0

    same-possible : (t : Trace) → possible (policy o) 0 (noted (policy o) rows t) ≡ possible (policy o') 0 (noted (policy o') rows t)
    same-possible t =
        (noted-is_meant (policy o) (formed-policy o p) (executed rows t)).1 ∙ same_meant true t ∙ sym (noted-is_meant (policy o') (formed-policy o' q) (executed rows t)).1

    -- so are the answers
    module _ (l : List Symbol) where
      same_open : (e : Event) → open_answer o l e ≡ open_answer o' l e
      same_open (Acts u a) =
          ap (λ b. cond (not (not (is_ordered o) || is_permitted o (trace_of l) u a)) NOT_AUTHORIZED
          (cond (not (not (is_ordered o) || is_somewhere (leads_after o (trace_of l) a))) NO_TRANSITION (cond (leb 12 (business_events l)) FULL (cond (not b) NOT_POSSIBLE ACCEPTED))))
          (same-possible (trace_of l ++ (business u a ∷ [])))
      same_open (Grants u r) = refl
      same_open (Revokes u r) = refl
      same_open Closes = ap (λ b. cond (not (b && may_end o (trace_of l))) NOT_SATISFIED ACCEPTED) (same-satisfied (trace_of l))
      same_open Malformed = refl

      same_answer : (e : Event) → answer_to o l e ≡ answer_to o' l e
      same_answer e = ap (λ k. cond (has_closed l) CLOSED k) (same_open e)

      same_after : letter_after o l ≡ letter_after o' l
      same_after = ap (λ s. cond (has_closed l) letter_d (open_letter s)) (same-satisfied (trace_of l))

    -- ── two monitors that keep step with the same events ──
    module _ (m m' : Monitor) (l : List Symbol) (f : Follows o m l) (g : Follows o' m' l) where
      same_code : (x n n' : ℕ) → is_short x n ≡ false → is_short x n' ≡ false → event_code m x n ≡ event_code m' x n'
      same_code x n n' long long' = answered o p m l f x n long ∙ same_answer l (read_event users roles x) ∙ sym (answered o' q m' l g x n' long')

      same-status : (status_code m ≡ status_code m') × (status_letter m ≡ status_letter m')
      same-status = (
        status-given o p m l f ∙ sym (status-given o' q m' l g),
        letter-given o p m l f ∙ same_after l ∙ sym (letter-given o' q m' l g),
      )

      -- what they accept is the same
      same_kept : (x : ℕ) (n n' : Lengths) → is_short x (n 0) ≡ false → is_short x (n' 0) ≡ false → kept (step_of m x n) ≡ kept (step_of m' x n')
      same_kept x n n' long long' = ap₂ (λ k e. cond (eqb k ACCEPTED) (symbol_of e) []) (same_code x (n 0) (n' 0) long long') (same-event o p m l f x ∙ sym (same-event o' q m' l g x))

    -- the whole list
    same_lines_lem : (ws : List ℕ) (n n' : Lengths) → EnoughFor ws n → EnoughFor ws n' → (m m' : Monitor) (l : List Symbol) → Follows o m l → Follows o' m' l
        → lines (run m ws n) ≡ lines (run m' ws n')
    unfolding run
    same_lines_lem [] n n' long long' m m' l f g = refl
    same_lines_lem (x ∷ ws) n n' long long' m m' l f g =
        let j = event_monitor m x (n 0) in
        let j' = event_monitor m' x (n' 0) in
        let k = l ++ kept (step_of m x n) in
        let f' : Follows o j k = step o p m l f x n in
        let g' : Follows o' j' k = subst (λ s. Follows o' j' (l ++ s)) (sym (same_kept m m' l f g x n n' long.0 long'.0)) (step o' q m' l g x n') in
        let (a, b) = same-status j j' k f' g' in
        let c = same_code m m' l f g x (n 0) (n' 0) long.0 long'.0 in
        let rest = same_lines_lem ws (from 1 n) (from 1 n') long.1 long'.1 j j' k f' g' in
        λ i. (c i, a i, b i) ∷ rest i

    opened_alike : AnsweredAlike o o'
    opened_alike =
        let f = follows_opened o p in
        let g = follows_opened o' q in
        record {
          status = same-status (opened o) (opened o') [] f g;
          events = λ ws n n' long long'. same_lines_lem ws n n' long long' (opened o) (opened o') [] f g;
        }

  -- two openings that are refused leave the same monitor, the blank one
  module _ (same : open_code o ≡ open_code o') (no : eqb (open_code o) 0 ≡ false) where
    same_blank : opened o ≡ opened o'
    unfolding opened
    same_blank = rw (no, ap (λ k. eqb k 0) (sym same) ∙ no)

    refused_alike : AnsweredAlike o o'
    refused_alike = record {
      status = (ap status_code same_blank, ap status_letter same_blank);
      events = λ ws n n' long long'. ap (λ m. lines (run m ws n)) same_blank ∙ ap lines (same-run ws n n' long long' (opened o'));
    }

  pub answered_alike : open_code o ≡ open_code o' → RuleSteps Rewrite (policy o) (policy o') → NumberedAlike o o'
  answered_alike same related = record {
    number = same;
    alike = by_test (eqb (open_code o) 0)
        (λ yes. let p = so_eq (open_code o) 0 yes in opened_alike p (sym same ∙ p) related)
        (λ no. refused_alike same no);
  }
