-- Cases byte for byte, and the lines that they print: listing L of document 01, and the payment workflow of document 004 under policy F.
use mathlib.Core.Path.{◌≡◌, refl}
use mathlib.Core.List.{List, [], ◌∷◌, ◌++◌}
use Prim.Native.Nat.{ℕ}
use Rattle.soda.specs.Bits.{set_bit, clear_bit}
use Rattle.soda.specs.Tables.{table}
use Rattle.units.specs.Units.{met_of}
use Rattle.workflow.specs.Permissions.{permission_rows}
use Rattle.workflow.specs.Workflows.{no_workflow, workflow_ok, workflow_of}
use Rattle.workflow.specs.Reading.{says_workflow, secure_ok, secure_of, not_given}
use Rattle.configuration.specs.Configurations.{configuration_ok}
use Rattle.instance.specs.Instances.{instance_ok}
use Rattle.instance.specs.Steps.{is_authorized, leads_to, is_final}
use Rattle.monitor.specs.Monitors.{open_refusals, fresh, opened, admission}
use Rattle.monitor.specs.Events.{read_event, event_refusals}
use Rattle.monitor.specs.Runs.{run}
use Rattle.casefile.specs.Cases.{case_ok}
use Rattle.casefile.specs.Texts.{step_lines, run_text, case_text}

-- ── listing L ──
abbrev listing : List ℕ
listing =
    12 ∷ 0 ∷ 40 ∷ 0 ∷ 52 ∷ 0 ∷ 8 ∷ 0 ∷ 60 ∷ 0 ∷ 36 ∷ 0 ∷ 0 ∷ 0 ∷ 0 ∷ 8 ∷ 0 ∷ 0 ∷ 0 ∷ 9 ∷ 0 ∷ 0 ∷ 0 ∷ 2 ∷ 0 ∷ 0 ∷ 0 ∷ 6 ∷ 2 ∷ 0 ∷ 0 ∷ 2 ∷ 0 ∷ 0 ∷ 0 ∷ 9 ∷ 0 ∷ 0 ∷ 0 ∷ 2 ∷ 0 ∷ 0 ∷ 0 ∷ 2 ∷ 0 ∷ 0 ∷ 0 ∷ 5 ∷ 0 ∷ 0 ∷ 0 ∷ 1 ∷ 3 ∷ 3 ∷ 2 ∷ 0 ∷ 1 ∷ 0 ∷ 0 ∷ 0 ∷ 1 ∷ 0 ∷ 0 ∷ 1 ∷ 2 ∷ 1 ∷ 0 ∷ 1 ∷ 2 ∷ 1 ∷ 0 ∷ 2 ∷ 2 ∷ 2 ∷ 0 ∷ 2 ∷ 0 ∷ 0 ∷ 0 ∷ 4 ∷ 3 ∷ 2 ∷ 0 ∷ 1 ∷ 4 ∷ 0 ∷ 0 ∷ 1 ∷ 0 ∷ 0 ∷ 0 ∷ 4 ∷ 4 ∷ 0 ∷ 0 ∷ 1 ∷ []

abbrev lines : List ℕ
lines =
    49 ∷ 32 ∷ 48 ∷ 32 ∷ 111 ∷ 10 ∷ 50 ∷ 32 ∷ 48 ∷ 32 ∷ 111 ∷ 10 ∷ 51 ∷ 32 ∷ 48 ∷ 32 ∷ 111 ∷ 10 ∷ 52 ∷ 32 ∷ 48 ∷ 32 ∷ 111 ∷ 10 ∷ 53 ∷ 32 ∷ 49 ∷ 49 ∷ 32 ∷ 111 ∷ 10 ∷ 54 ∷ 32 ∷ 48 ∷ 32 ∷ 99 ∷ 10 ∷ 55 ∷ 32 ∷ 48 ∷ 32 ∷ 99 ∷ 10 ∷ 56 ∷ 32 ∷ 48 ∷ 32 ∷ 100 ∷ 10 ∷ 57 ∷ 32 ∷ 49 ∷ 48 ∷ 32 ∷ 100 ∷ 10 ∷ 116 ∷ 97 ∷ 107 ∷ 101 ∷ 110 ∷ 32 ∷ 52 ∷ 10 ∷ []

pub listing_l : case_text listing ≡ lines
unfolding set_bit clear_bit table met_of no_workflow workflow_ok secure_ok secure_of not_given is_authorized leads_to is_final open_refusals fresh opened configuration_ok instance_ok admission read_event event_refusals run case_ok step_lines run_text case_text
listing_l = refl

-- ── document 004's payments, Examples 2 and 7 ──
-- policy F; Alice is a clerk, Bob an accountant, Claire holds no role
abbrev policy_and_grants : List ℕ
policy_and_grants =
    0 ∷ 0 ∷ 0 ∷ 8 ∷ 0 ∷ 0 ∷ 0 ∷ 9 ∷ 0 ∷ 0 ∷ 0 ∷ 2 ∷ 0 ∷ 0 ∷ 0 ∷ 6 ∷ 2 ∷ 0 ∷ 0 ∷ 2 ∷ 0 ∷ 0 ∷ 0 ∷ 9 ∷ 0 ∷ 0 ∷ 0 ∷ 2 ∷ 0 ∷ 0 ∷ 0 ∷ 2 ∷ 0 ∷ 0 ∷ 0 ∷ 5 ∷ 0 ∷ 0 ∷ 0 ∷ 1 ∷ 3 ∷ 3 ∷ 2 ∷ 0 ∷ 1 ∷ 0 ∷ 0 ∷ 0 ∷ []

-- an accountant prepares; a clerk receives and issues; a manager approves and rejects
abbrev permissions : List ℕ
permissions = 4 ∷ 0 ∷ 0 ∷ 0 ∷ 0 ∷ 0 ∷ 0 ∷ 0 ∷ 18 ∷ 0 ∷ 0 ∷ 0 ∷ 0 ∷ 0 ∷ 0 ∷ 0 ∷ 40 ∷ 0 ∷ 0 ∷ 0 ∷ 0 ∷ 0 ∷ 0 ∷ 0 ∷ []

-- five states of which 4 is final, and seven transitions
abbrev workflow : List ℕ
workflow = 5 ∷ 7 ∷ 16 ∷ 0 ∷ 0 ∷ 1 ∷ 1 ∷ 1 ∷ 2 ∷ 2 ∷ 2 ∷ 3 ∷ 3 ∷ 2 ∷ 5 ∷ 1 ∷ 3 ∷ 3 ∷ 3 ∷ 3 ∷ 5 ∷ 1 ∷ 3 ∷ 4 ∷ 4 ∷ []

abbrev payment : List ℕ → List ℕ → List ℕ
payment pairs events = pairs ++ policy_and_grants ++ events ++ permissions ++ workflow

-- Bob may not approve, so that nothing can be issued and the run does not end.
abbrev bob_approves : List ℕ
bob_approves =
    payment (20 ∷ 0 ∷ 40 ∷ 0 ∷ 60 ∷ 0 ∷ 8 ∷ 0 ∷ 68 ∷ 0 ∷ 20 ∷ 0 ∷ 88 ∷ 0 ∷ 24 ∷ 0 ∷ 112 ∷ 0 ∷ 25 ∷ 0 ∷ [])
    (1 ∷ 0 ∷ 0 ∷ 1 ∷ 2 ∷ 1 ∷ 0 ∷ 1 ∷ 3 ∷ 1 ∷ 0 ∷ 1 ∷ 4 ∷ 0 ∷ 0 ∷ 1 ∷ 0 ∷ 0 ∷ 0 ∷ 4 ∷ [])

pub bob_approves_lem : case_text bob_approves ≡ 49 ∷ 32 ∷ 48 ∷ 32 ∷ 111 ∷ 10 ∷ 50 ∷ 32 ∷ 48 ∷ 32 ∷ 111 ∷ 10 ∷ 51 ∷ 32 ∷ 49 ∷ 54 ∷ 32 ∷ 111 ∷ 10 ∷ 52 ∷ 32 ∷ 49 ∷ 55 ∷ 32 ∷ 111 ∷ 10 ∷ 53 ∷ 32 ∷ 49 ∷ 49 ∷ 32 ∷ 111 ∷ 10 ∷ 116 ∷ 97 ∷ 107 ∷ 101 ∷ 110 ∷ 32 ∷ 50 ∷ 10 ∷ []
unfolding set_bit clear_bit table met_of permission_rows no_workflow workflow_ok workflow_of says_workflow secure_ok secure_of not_given is_authorized leads_to is_final open_refusals fresh opened configuration_ok instance_ok admission read_event event_refusals run case_ok step_lines run_text case_text
bob_approves_lem = refl

-- Bob and Claire are made managers, and Claire approves.
abbrev claire_approves : List ℕ
claire_approves =
    payment (20 ∷ 0 ∷ 40 ∷ 0 ∷ 60 ∷ 0 ∷ 8 ∷ 0 ∷ 68 ∷ 0 ∷ 28 ∷ 0 ∷ 96 ∷ 0 ∷ 24 ∷ 0 ∷ 120 ∷ 0 ∷ 25 ∷ 0 ∷ [])
    (1 ∷ 0 ∷ 0 ∷ 1 ∷ 2 ∷ 1 ∷ 0 ∷ 1 ∷ 2 ∷ 1 ∷ 0 ∷ 2 ∷ 2 ∷ 2 ∷ 0 ∷ 2 ∷ 3 ∷ 2 ∷ 0 ∷ 1 ∷ 4 ∷ 0 ∷ 0 ∷ 1 ∷ 0 ∷ 0 ∷ 0 ∷ 4 ∷ [])

pub claire_approves_lem : case_text claire_approves ≡ 49 ∷ 32 ∷ 48 ∷ 32 ∷ 111 ∷ 10 ∷ 50 ∷ 32 ∷ 48 ∷ 32 ∷ 111 ∷ 10 ∷ 51 ∷ 32 ∷ 48 ∷ 32 ∷ 111 ∷ 10 ∷ 52 ∷ 32 ∷ 48 ∷ 32 ∷ 111 ∷ 10 ∷ 53 ∷ 32 ∷ 48 ∷ 32 ∷ 99 ∷ 10 ∷ 54 ∷ 32 ∷ 48 ∷ 32 ∷ 99 ∷ 10 ∷ 55 ∷ 32 ∷ 48 ∷ 32 ∷ 100 ∷ 10 ∷ 116 ∷ 97 ∷ 107 ∷ 101 ∷ 110 ∷ 32 ∷ 52 ∷ 10 ∷ []
unfolding set_bit clear_bit table met_of permission_rows no_workflow workflow_ok workflow_of says_workflow secure_ok secure_of not_given is_authorized leads_to is_final open_refusals fresh opened configuration_ok instance_ok admission read_event event_refusals run case_ok step_lines run_text case_text
claire_approves_lem = refl
