-- The multiset test's refusals in order, and its answers; the workspace can be filled for a multiset's actions.
use Rattle.std.specs.Prelude.{Result, Ok, Err}
use mathlib.Core.Path.{◌≡◌, refl, sym, ap, ◌∙◌}
use mathlib.Core.Logic.{inr, ◌≢◌}
use mathlib.Core.Bool.{Bool, true, false, So, not}
use mathlib.Core.List.{List, [], ◌∷◌, ◌++◌}
use Prim.Native.Nat.{ℕ, ◌≤◌, ◌<◌}
use native.Mathlib.Omega.{arith}
use lib.Dec.{ltb}
use lib.ListN.{length, drop, length-map}
use lib.Seq.{take-length}
use borrow.Author.Tests.{ne_eqb}
use Rattle.soda.specs.Lists.{all}
use Rattle.soda.specs.Tables.{satisfied}
use Rattle.soda.proofs.Bools.{lt_so}
use Rattle.soda.proofs.Splits.{all_map}
use Rattle.soda.specs.declared.Action.{Action}
use Rattle.policy.specs.Codes.{UNIT, MALFORMED, FULL}
use Rattle.policy.specs.Faults.{code_at}
use Rattle.policy.specs.Codes.{Plain}
use Rattle.policy.specs.Answers.{code_of}
use Rattle.policy.specs.declared.refusal.Refusal.{Refusal}
use Rattle.policy.specs.Refusals.{◌gives◌, code, Refusals}
use Rattle.policy.proofs.Refusals.{clear, code_front, code-behind}
use Rattle.policy.proofs.Scanning.{counts_most}
use Rattle.policy.proofs.Places.{others_have_none}
use Rattle.workspace.specs.Workspace.{is_filled, filled}
use Rattle.configuration.specs.Configurations.{is_zero}
use Rattle.monitor.specs.Monitors.{Opening, policy, open_refusals, open_code, code_in}
use Rattle.configuration.proofs.Formed.{one_each}
use Rattle.monitor.proofs.Formed.{opened-rows_ok, opened-is-policy, opens_read}
use Rattle.monitor.proofs.Fillable.{fillable}
use Rattle.multiset.specs.MultisetTest.{verdict_code, verdict_letter, total, listed, noted_by, actions_of, unordered, test_refusals, test_code, test_of, test_workspace}
use Rattle.multiset.specs.Private.{Counted}
use Rattle.multiset.proofs.Listed.{listed-length, listed-all}

module _ (o : Opening) (counts : List ℕ) where
  -- ── a multiset's actions, where the opening is accepted ──
  module _ (e : open_code (unordered o) ≡ 0) where
    one-row : length o.rows ≡ o.users
    one-row = one_each o.users o.roles o.rows (opened-rows_ok (unordered o) e)

    pub users-few : o.users ≤ 16
    users-few = (counts_most o.users o.roles (opened-is-policy (unordered o) e).counts).0

    module _ (few : total counts ≤ 12) where
      pub counted : total (drop o.users counts) ≡ 0 → Counted o.rows counts
      counted d = record {
        rows_most = omega (arith, one-row, users-few);
        few = few;
        declared = ap (λ (n : ℕ). total (drop n counts)) one-row ∙ d;
      }

      number : length (actions_of o counts) ≡ total counts
      number = length-map (listed 0 counts) (noted_by o) ∙ listed-length 0 counts

      known : length counts ≡ 16 → So (all (λ (x : Action). ltb x.user 16) (actions_of o counts))
      known n = rw (all_map (noted_by o) (λ x. ltb x.user 16) (listed 0 counts)) (listed-all (λ v. ltb v 16) 16 0 counts (omega arith) (λ v p q. lt_so v 16 q))

      pub fills : (before : List ℕ) → length counts ≡ 16 → 8192 ≤ length before → So (is_filled o.words (actions_of o counts) (length (actions_of o counts)) before)
      fills before n long =
          let l = actions_of o counts in
          let r = opens_read (unordered o) e in
          fillable o.words l (length l) before r.long r.term r.formed (omega (arith, number)) (rw (take-length l) (known n)) long

  -- ── the refusals in order ──
  module _ (before : List ℕ) where
    abbrev own : Refusals
    own = (not (all is_zero (drop o.users counts)) gives MALFORMED) ∷ (ltb 12 (total counts) gives FULL) ∷ []

    -- the workspace is long enough: the opening's number, or, where that is 0, one of the test's own
    code_long : ltb (length before) 8192 ≡ false → test_code o counts (length before) ≡ code (open_refusals (unordered o) ++ own)
    unfolding test_refusals
    code_long h = rw h

    pub code_opening : ltb (length before) 8192 ≡ false → open_code (unordered o) ≢ 0 → test_code o counts (length before) ≡ open_code (unordered o)
    code_opening h ne = code_long h ∙ code_front (open_refusals (unordered o)) own ne

    pub code_own : ltb (length before) 8192 ≡ false → open_code (unordered o) ≡ 0 → test_code o counts (length before) ≡ code own
    unfolding open_refusals
    code_own h e = code_long h ∙ code-behind (open_refusals (unordered o)) own (clear (open_refusals (unordered o)) refl e)

    -- ── what the test answers ──
    abbrev pub Answered : Result Bool Refusal → List ℕ → Type 0
    Answered r after = (record { code = verdict_code r; letter = verdict_letter r } ≡ test_of o counts (length before)) × (after ≡ test_workspace o counts before)

    pub refused_test : (r : Refusal) (k : ℕ) → k ≢ 0 → code_of r ≡ code_in o k → test_code o counts (length before) ≡ k → Answered (Err r) before
    unfolding test_of test_workspace
    refused_test r k ne d e = (rw (e, d, ne_eqb k 0 ne), rw (e, ne_eqb k 0 ne))

    -- a number that is not the policy author's
    pub refused_plain : (r : Refusal) (k : ℕ) → UNIT < k → code_of r ≡ Plain k → test_code o counts (length before) ≡ k → Answered (Err r) before
    refused_plain r k h d e = refused_test r k (λ z. omega arith) (d ∙ sym (others_have_none o.users o.roles o.words k (inr h))) e

    pub answered_test : (after : List ℕ) → test_code o counts (length before) ≡ 0 → after ≡ filled (policy o) (actions_of o counts) before
        → (b : Bool) → b ≡ satisfied (policy o) 0 (actions_of o counts) → Answered (Ok b) after
    unfolding test_of test_workspace code_at
    answered_test after e f true s = (rw (e, sym s), rw e f)
    answered_test after e f false s = (rw (e, sym s), rw e f)
