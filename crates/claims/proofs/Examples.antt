-- Document 01's twelve settled examples hold: one computed test over the whole table. So do those of spreading. And who may act, computed on
-- one policy.
use mathlib.Core.Path.{◌≡◌, refl, sym}
use mathlib.Core.Bool.{So}
use mathlib.Core.List.{List, [], ◌∷◌, map, append-nil}
use Prim.Native.Nat.{ℕ}
use Rattle.soda.specs.Bits.{set_bit, clear_bit}
use Rattle.soda.specs.Terms.{Op, either, together, apart, Term, role, bin, ◌⊙◌}
use Rattle.soda.specs.Words.{encode, fits}
use Rattle.soda.specs.Tables.{table as judgements}
use Rattle.soda.specs.Rewriting.{spreads, Spread, spread_right, WordRuleSteps}
use Rattle.policy.specs.Faults.{code_at}
use Rattle.policy.specs.Reading.{read_policy}
use Rattle.units.specs.Units.{met_of}
use Rattle.normal.specs.NormalForms.{normal_words, normal_refusals, normal_out}
use Rattle.workflow.specs.Permissions.{permission_rows}
use Rattle.workflow.specs.Workflows.{no_workflow, workflow_ok, workflow_of}
use Rattle.workflow.specs.Reading.{says_workflow, secure_ok, not_given, secure_of}
use Rattle.configuration.specs.Configurations.{configuration_ok}
use Rattle.instance.specs.Instances.{instance_ok}
use Rattle.instance.specs.Steps.{is_authorized, leads_to, is_final}
use Rattle.monitor.specs.declared.Monitor.{Monitor}
use Rattle.monitor.specs.Monitors.{given, bare, open_refusals, blank, fresh, opened, admission}
use Rattle.monitor.specs.Events.{read_event, event_refusals}
use Rattle.monitor.specs.Enabled.{Users, Refused, enabled_mask, enabled_in}
use Rattle.monitor.specs.Runs.{run, final}
use Rattle.multiset.specs.MultisetTest.{test_refusals, test_of}
use Rattle.claims.specs.Runs.{lines}
use Rattle.claims.specs.Examples.{F, o, c, d, Settled}
use Rattle.claims.specs.Spreading.{SpreadsTo, SpreadExamples}

pub settled : Settled
unfolding set_bit clear_bit judgements met_of code_at read_policy normal_words normal_refusals normal_out configuration_ok instance_ok open_refusals fresh opened admission read_event event_refusals test_refusals test_of run secure_ok secure_of not_given workflow_ok no_workflow is_authorized leads_to is_final
settled = refl

-- ── spreading ──
-- the whole of a policy's words, in one step
at_once : (op : Op) (a b c : Term) → So (spreads op) → So (fits (bin op a (bin either b c)))
    → WordRuleSteps Spread (encode (bin op a (bin either b c))) (encode (bin either (bin op a b) (bin op a c)))
at_once op a b c h f = WordRuleSteps.step (record {
  before = [];
  after = [];
  old = bin op a (bin either b c);
  new = bin either (bin op a b) (bin op a c);
  rule = spread_right op a b c h;
  layout = f;
  is_old = sym (append-nil (encode (bin op a (bin either b c))));
  is_new = sym (append-nil (encode (bin either (bin op a b) (bin op a c))));
}) (WordRuleSteps.none refl)

eight : Term
eight = let r = role 0 in r ⊙ (r ⊙ (r ⊙ (r ⊙ (r ⊙ (r ⊙ (r ⊙ r))))))

pub leads : SpreadsTo
unfolding eight
leads = (at_once together (role 0) (role 1) (role 2) refl refl, at_once apart eight (role 1) (role 2) refl refl)

pub spread_examples : SpreadExamples
unfolding set_bit clear_bit judgements met_of code_at read_policy normal_words normal_refusals normal_out configuration_ok instance_ok open_refusals fresh opened admission read_event event_refusals run secure_ok secure_of not_given workflow_ok no_workflow is_authorized leads_to is_final
spread_examples = record { different = refl; plus = refl; either = refl; apart = refl }

-- ── who may act ──
-- user 0 counts (role 0), user 1 counts and approves (roles 0 and 1), user 2 holds no role; apart(role 0, role 1)
quote : Monitor
quote = opened (bare 3 2 (0x09000000 ∷ 0x02000000 ∷ 0x02000001 ∷ []) (1 ∷ 3 ∷ 0 ∷ []))

after : List ℕ → Monitor
after words = final quote (run quote words (λ k. 8192))

-- At first users 0 and 1. After user 1's action user 0. After user 0's action user 1, and with role 1 granted also user 2. Once both sides
-- have acted, or the quote is closed, nobody.
masks : map (λ words. enabled_in (after words) 8192 0) (
    []
    ∷ (0x01000100 ∷ [])
    ∷ (0x01000000 ∷ [])
    ∷ (0x01000000 ∷ 0x02000201 ∷ [])
    ∷ (0x01000000 ∷ 0x02000201 ∷ 0x01000277 ∷ [])
    ∷ (0x01000000 ∷ 0x01000100 ∷ 0x04000000 ∷ [])
    ∷ []
    ) ≡ Users 3 ∷ Users 1 ∷ Users 2 ∷ Users 6 ∷ Users 0 ∷ Users 0 ∷ []
unfolding set_bit clear_bit judgements met_of configuration_ok instance_ok open_refusals fresh opened admission read_event event_refusals run enabled_mask quote after secure_ok secure_of not_given workflow_ok no_workflow is_authorized leads_to is_final
masks = refl

-- 12 comes before 15
refusals : (enabled_in quote 8191 0 ≡ Refused 12) × (enabled_in blank 8192 0 ≡ Refused 15) × (enabled_in blank 8191 0 ≡ Refused 12)
unfolding judgements met_of configuration_ok instance_ok open_refusals fresh opened admission blank quote secure_ok secure_of not_given workflow_ok no_workflow is_authorized leads_to is_final
refusals = (refl, refl, refl)

-- ── the payment workflow (document 004, Examples 1, 2 and 7) ──
-- Alice, Bob and Claire are users 0, 1 and 2, the roles Accountant, Clerk and Manager 0, 1 and 2; the actions are 1 receive invoice, 2 prepare
-- check, 3 approve payment, 4 issue check and 5 reject payment. The policy is F, Alice is Clerk and Bob is Accountant.
payment : Monitor
payment = opened (given 3 3 F (2 ∷ 1 ∷ 0 ∷ [])
    (4 ∷ 0 ∷ 0 ∷ 0 ∷ 0 ∷ 0 ∷ 0 ∷ 0 ∷ 18 ∷ 0 ∷ 0 ∷ 0 ∷ 0 ∷ 0 ∷ 0 ∷ 0 ∷ 40 ∷ 0 ∷ 0 ∷ 0 ∷ 0 ∷ 0 ∷ 0 ∷ 0 ∷ [])
    (5 ∷ 7 ∷ 16 ∷ 0 ∷ 0 ∷ 1 ∷ 1 ∷ 1 ∷ 2 ∷ 2 ∷ 2 ∷ 3 ∷ 3 ∷ 2 ∷ 5 ∷ 1 ∷ 3 ∷ 3 ∷ 3 ∷ 3 ∷ 5 ∷ 1 ∷ 3 ∷ 4 ∷ 4 ∷ []))

-- Nobody may approve: 16, and what should follow it is out of order. With Bob as Manager RBAC and the workflow take his approval, but the run
-- does not satisfy F. With Claire as Manager all three take hers.
paid : map (λ words. lines (run payment words (λ k. 8192))) (
    (0x01000001 ∷ 0x01000102 ∷ 0x01000103 ∷ 0x01000004 ∷ 0x04000000 ∷ [])
    ∷ (0x01000001 ∷ 0x01000102 ∷ 0x02000102 ∷ 0x01000103 ∷ 0x01000004 ∷ 0x04000000 ∷ [])
    ∷ (0x01000001 ∷ 0x01000102 ∷ 0x02000102 ∷ 0x02000202 ∷ 0x01000203 ∷ 0x04000000 ∷ 0x01000004 ∷ 0x04000000 ∷ [])
    ∷ []
    ) ≡ (o 0 ∷ o 0 ∷ o 16 ∷ o 17 ∷ o 11 ∷ [])
    ∷ (o 0 ∷ o 0 ∷ o 0 ∷ o 0 ∷ o 0 ∷ o 11 ∷ [])
    ∷ (o 0 ∷ o 0 ∷ o 0 ∷ o 0 ∷ c 0 ∷ c 11 ∷ c 0 ∷ d 0 ∷ [])
    ∷ []
unfolding set_bit clear_bit judgements met_of configuration_ok instance_ok open_refusals fresh opened admission read_event event_refusals run payment permission_rows workflow_of says_workflow secure_ok secure_of workflow_ok is_authorized leads_to is_final
paid = refl

-- Who may act first: Alice alone may receive; others may do what is not next, and an action above 63 is nobody's.
payers : map (enabled_in payment 8192) (1 ∷ 2 ∷ 3 ∷ 64 ∷ []) ≡ Users 1 ∷ Users 0 ∷ Users 0 ∷ Users 0 ∷ []
unfolding set_bit clear_bit judgements met_of configuration_ok instance_ok open_refusals fresh opened admission read_event event_refusals enabled_mask payment permission_rows workflow_of says_workflow secure_ok secure_of workflow_ok is_authorized leads_to
payers = refl
