-- A run's steps are calls: numbers and monitors go by the length of the workspace alone, letters by the monitor.
use mathlib.Core.Path.{refl}
use Rattle.policy.proofs.Places.{code_has_number}
use Rattle.monitor.specs.Monitors.{open_code}
use Rattle.monitor.specs.Events.{outcome}
use Rattle.monitor.specs.Statuses.{status_of}
use Rattle.claims.specs.Calls.{OpeningIsCall, StepIsCalls}

pub opening-is-call : OpeningIsCall
opening-is-call o = (code_has_number o.users o.roles o.words (open_code o), refl)

pub step-is_calls : StepIsCalls
unfolding outcome status_of
step-is_calls m w n before e = record {
  number = rw e;
  monitor = rw e;
  status_has_number = rw e;
  letter = rw e;
}
