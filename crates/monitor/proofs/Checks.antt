-- What a refusal's number says, and what is known of an event's user.
use Rattle.std.specs.Prelude.{Option, Some, None, Err, ok_or}
use Rattle.std.proofs.Common.{◌≡◌, ◌≢◌, ℕ, Bool, false, not, ◌&&◌, eqb, refl, sym, subst, ◌∙◌, true≢false, rules}
use Rattle.std.proofs.Math.Bool.{So}
use Rattle.soda.proofs.Bools.{never, and_split}
use Rattle.policy.specs.Codes.{ACCEPTED, Code, Fault, Plain}
use Rattle.policy.specs.Faults.{is_fault, code_number}
use Rattle.policy.specs.Answers.{code_of}
use Rattle.policy.specs.declared.refusal.Refusal.{Refusal}
use Rattle.policy.specs.declared.refusal.Refusal.TheVariants.{WordCount, Word, Term, Unit, Opening, Text, Counts, Rows, Workflow, Malformed, Full, NotPossible, Closed, NotSatisfied, NotAuthorized, NoTransition, Workspace, Output, Case, Monitor}
use Rattle.monitor.specs.declared.Monitor.{Monitor as Sheet}
use Rattle.monitor.specs.Events.{Event, Acts, Grants, Revokes, Closes, Malformed as BadWord}
use Rattle.monitor.specs.Private.{Meets, actor, Noting}

-- a code that a refusal may have: of a policy's fault, with its place, or another number than that of acceptance
abbrev is_refusal : Code → Bool
is_refusal (Fault k p) = is_fault k
is_refusal (Plain k) = not (is_fault k) && not (eqb k ACCEPTED)

refuses : (r : Refusal) → So (is_refusal (code_of r))
refuses WordCount = refl
refuses (Word p) = refl
refuses (Term p) = refl
refuses (Unit p) = refl
refuses Opening = refl
refuses Text = refl
refuses Counts = refl
refuses Rows = refl
refuses Workflow = refl
refuses Malformed = refl
refuses Full = refl
refuses NotPossible = refl
refuses Closed = refl
refuses NotSatisfied = refl
refuses NotAuthorized = refl
refuses NoTransition = refl
refuses Workspace = refl
refuses Output = refl
refuses Case = refl
refuses Monitor = refl

-- no refusal's number is that of acceptance
pub refusal-number : (r : Refusal) → code_number (code_of r) ≢ 0
refusal-number r = go (code_of r) (refuses r)
  where
    go : (c : Code) → So (is_refusal c) → code_number c ≢ 0
    go (Fault k p) h z = never (subst (λ n. So (is_fault n)) z h)
    go (Plain k) h z = never (subst (λ n. So (not (eqb n ACCEPTED))) z (and_split (not (is_fault k)) (not (eqb k ACCEPTED)) h).1)

-- one whose number is no policy's fault has no place
pub refusal_plain : (r : Refusal) → is_fault (code_number (code_of r)) ≡ false → code_of r ≡ Plain (code_number (code_of r))
refusal_plain r = go (code_of r) (refuses r)
  where
    go : (c : Code) → So (is_refusal c) → is_fault (code_number c) ≡ false → c ≡ Plain (code_number c)
    go (Fault k p) h f = absurd (true≢false (sym h ∙ f))
    go (Plain k) h f = refl

-- what is refused where a value is missing
pub refused_missing : {T : Type 0} (o : Option T) (e r : Refusal) → ok_or o e ≡ Err r → (o ≡ None) × (r ≡ e)
refused_missing None e r q = (refl, search rules)
refused_missing (Some x) e r q = absurd (search rules)

-- what the user who acts meets is what is noted of an action
pub noting : (m : Sheet) (e : Event) (met : ℕ) → Meets m.configuration m.instance (actor e) met → Noting m e met
noting m (Acts u a) met h = h
noting m (Grants u r) met h = tt
noting m (Revokes u r) met h = tt
noting m Closes met h = tt
noting m BadWord met h = tt
