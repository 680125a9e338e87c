-- The monitor (document 01: sheet), a configuration and an instance: the blank one, opening one, and when one is well formed.
use Rattle.std.specs.Prelude.{Bool, not, ◌&&◌, cond, List, [], ◌∷◌, ◌++◌, ℕ, eqb, Result, Ok, Err}
use Rattle.soda.specs.Terms.{Term}
use Rattle.policy.specs.Codes.{ACCEPTED, WORKFLOW, WORKSPACE, MONITOR}
use Rattle.policy.specs.Refusals.{◌gives◌, code}
use Rattle.policy.specs.Words.{decode, term_of}
use Rattle.policy.specs.Faults.{code_at}
use Rattle.policy.specs.Reading.{refusals}
use Rattle.policy.specs.Codes.{Code, Plain}
use Rattle.policy.specs.Answers.{code_of}
use Rattle.policy.specs.declared.refusal.Refusal.{Refusal}
use Rattle.workflow.specs.Reading.{SecureRead, secure_ok, secure_of}
use Rattle.monitor.specs.declared.Monitor.{Monitor}
use Rattle.configuration.specs.Configurations.{no_configuration, configuration_of, with_permissions, row_refusals, configuration_ok}
use Rattle.instance.specs.Instances.{no_instance, instance_of, instance_ok}

-- ── opening ──
-- what an opening is given: the counts, the policy's words, the grants, and the bytes of the permissions and of the workflow
pub record Opening : Type 0 where
  pub users : ℕ
  pub roles : ℕ
  pub words : List ℕ
  pub rows : List ℕ
  pub permissions : List ℕ
  pub workflow : List ℕ

abbrev pub given : ℕ → ℕ → List ℕ → List ℕ → List ℕ → List ℕ → Opening
given users roles words rows permissions workflow =
    record { users = users; roles = roles; words = words; rows = rows; permissions = permissions; workflow = workflow }

-- with neither permissions nor workflow
abbrev pub bare : ℕ → ℕ → List ℕ → List ℕ → Opening
bare users roles words rows = given users roles words rows [] []

-- the term that its words are
abbrev pub policy : Opening → Term
policy o = term_of (decode o.words)

-- its permissions and its workflow, as they are read
abbrev pub secure : Opening → SecureRead
secure o = secure_of o.roles o.permissions o.workflow

-- "19 follows 6 at opening"
abbrev pub secure_refusals : Opening → List (Bool × ℕ)
secure_refusals o = (not (secure_ok o.roles o.permissions o.workflow) gives WORKFLOW) ∷ []

-- 01's order with 02's 19: 5, 1, 2, 3, 4, 6, 19
unfoldable pub open_refusals : Opening → List (Bool × ℕ)
open_refusals o = refusals o.users o.roles o.words ++ (row_refusals o.users o.roles o.rows ++ secure_refusals o)

abbrev pub open_code : Opening → ℕ
open_code o = code (open_refusals o)

-- the code of a call that is given so much and answers this number: 1 to 4 with the place of the policy's fault (02, E2)
abbrev pub code_in : Opening → ℕ → Code
code_in o k = code_at o.users o.roles o.words k

-- the blank sheet, all zero
unfoldable pub blank : Monitor
blank = record { configuration = no_configuration; instance = no_instance }

-- an opened sheet
unfoldable pub fresh : Opening → Monitor
fresh o = record {
  configuration = with_permissions (configuration_of o.users o.roles o.rows) (secure o).permissions;
  instance = instance_of o.words (secure o).workflow;
}

-- what an opening leaves; a refused one hands back the blank sheet
unfoldable pub opened : Opening → Monitor
opened o = cond (eqb (open_code o) 0) (fresh o) blank

-- what an opening answers: its code, and the monitor that it leaves
pub record Opened : Type 0 where
  pub code : Code
  pub monitor : Monitor

abbrev pub opening : Opening → Opened
opening o = record { code = code_in o (open_code o); monitor = opened o }

-- what `open` of src answers
abbrev pub as_opened : Result Monitor Refusal → Opened
as_opened (Ok m) = record { code = Plain ACCEPTED; monitor = m }
as_opened (Err r) = record { code = code_of r; monitor = blank }

-- ── number 15: exactly 01's list, and what 02's E4 and E6 add to it ──
abbrev pub well_formed : Monitor → Bool
well_formed m = configuration_ok m.configuration && instance_ok m.configuration m.instance

-- ── what every call on a monitor asks first ──
-- 15
abbrev pub monitor_refusals : Monitor → List (Bool × ℕ)
monitor_refusals m = (not (well_formed m) gives MONITOR) ∷ []

-- 12, 15, where a workspace is asked for and whether it is too short
unfoldable pub admission : Monitor → Bool → List (Bool × ℕ)
admission m short = (short gives WORKSPACE) ∷ monitor_refusals m
