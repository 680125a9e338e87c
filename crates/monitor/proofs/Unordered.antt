-- With neither permissions nor workflow nothing but the policy decides.
use mathlib.Core.Path.{◌≡◌, refl, sym, ap, ap₂, ◌∙◌}
use mathlib.Core.Bool.{Bool, true, false, not, cond, and-true}
use Prim.Native.Nat.{ℕ, ◌<◌}
use native.Mathlib.Omega.{arith}
use lib.Dec.{ltb, eqb}
use lib.ListN.{length}
use Rattle.policy.specs.Codes.{NOT_SATISFIED}
use Rattle.policy.specs.Refusals.{code}
use Rattle.instance.specs.Letters.{letter_c}
use Rattle.instance.specs.Steps.{is_authorized, leads_to, is_final}
use Rattle.monitor.specs.Enabled.{action_word}
use Rattle.monitor.specs.Events.{Event, Acts, Malformed, is_short, applied, event_refusals, workspace_after, Outcome, outcome}
use Rattle.monitor.specs.Laws.{WithoutWorkflow, NumberPlaysNoPart}
use Rattle.monitor.proofs.Enabling.{its_kind, read_action}

pub without-workflow : WithoutWorkflow
unfolding is_authorized leads_to is_final
without-workflow c i h = record {
  action = λ u a. rw h;
  close = rw h (ap (λ b. cond (not b) NOT_SATISFIED 0) (and-true (eqb i.status letter_c)));
  state = λ u a. rw h;
}

pub number_plays_no_part : NumberPlaysNoPart
unfolding outcome event_refusals is_authorized leads_to
number_plays_no_part m u a before h k none =
    ap₂ given (asks a k) (read_action u a h k m.configuration.users m.configuration.roles) ∙ by (ltb u m.configuration.users)
    ∙ sym (ap₂ given (asks 0 (omega arith)) (read_action u 0 h (omega arith) m.configuration.users m.configuration.roles))
  where
    short : Bool
    short = ltb (length before) 8192

    given : Bool → Event → Outcome
    given b e = record {
      code = code (event_refusals m e b);
      monitor = cond (eqb (code (event_refusals m e b)) 0) (applied m e) m;
      workspace = workspace_after m.configuration m.instance e (code (event_refusals m e b)) before;
    }

    asks : (n : ℕ) → n < 256 → is_short (action_word u n) (length before) ≡ short
    asks n l = rw (its_kind u n h l)

    by : (b : Bool) → given short (cond b (Acts u a) Malformed) ≡ given short (cond b (Acts u 0) Malformed)
    by true = rw none
    by false = refl
