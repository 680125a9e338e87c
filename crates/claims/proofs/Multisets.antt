-- The multiset test is Definition 3: what it notes of its users is what the algebra notes of them. The workspace has their actions in
-- order.
use mathlib.Core.Path.{◌≡◌, refl, sym, ◌∙◌, ap, subst₂, fun_ext}
use mathlib.Core.Logic.{◌↔◌}
use mathlib.Core.Bool.{Bool, true, false, So, not, cond}
use mathlib.Core.List.{List, [], ◌∷◌, map}
use Prim.Native.Nat.{ℕ, zero, suc, ◌≤◌}
use native.Mathlib.Omega.{arith}
use lib.Dec.{ltb, eqb}
use lib.ListN.{length, get_or, drop, length-map}
use lib.Pow.{pow_mono}
use borrow.Author.Tests.{ltb-false, le-ltb, ne_eqb, not-false}
use Rattle.soda.specs.Lists.{all}
use Rattle.soda.specs.Tables.{satisfied, note}
use Rattle.soda.specs.Roles.{roles}
use Rattle.soda.specs.Multisets.{SatM}
use Rattle.soda.specs.Traces.{execution}
use Rattle.soda.proofs.Bools.{never, and_split, and-join, so_eq, eq_so}
use Rattle.soda.proofs.Accuracy.{satisfied-is-users}
use Rattle.policy.specs.Codes.{MALFORMED, FULL}
use Rattle.policy.specs.Refusals.{Refusals, ◌gives◌}
use Rattle.policy.proofs.Refusals.{clear, clear_code, clear_front, clear_behind, code-behind}
use Rattle.workspace.specs.Workspace.{table_of, filled}
use Rattle.workspace.proofs.Columns.{filled-word}
use Rattle.configuration.specs.Configurations.{is_zero}
use Rattle.monitor.specs.Monitors.{Opening, policy, open_refusals, open_code}
use Rattle.multiset.specs.MultisetTest.{total, listed, noted_by, actions_of, unordered, test_refusals, test_code, letter_y, letter_n, test_of, test_workspace}
use Rattle.multiset.proofs.Listed.{listed-length}
use Rattle.multiset.proofs.Ascending.{counted-users, listed-is-ascending}
use Rattle.claims.specs.Accuracy.{Testable, Counted, TestIsMultiset, TestFillsAscending, TestLeavesSameWords}
use Rattle.claims.proofs.Follows.{formed-policy, noted-is-note}

-- ── when the test is not refused ──
zero-from : (l : List ℕ) (n u : ℕ) → So (all is_zero (drop n l)) → n ≤ u → get_or l u 0 ≡ 0
zero-from [] n u h k = refl
zero-from (x ∷ l) zero zero h k = so_eq x 0 (and_split (is_zero x) (all is_zero l) h).0
zero-from (x ∷ l) zero (suc u) h k = zero-from l zero u (and_split (is_zero x) (all is_zero l) h).1 (omega arith)
zero-from (x ∷ l) (suc n) zero h k = absurd (omega arith)
zero-from (x ∷ l) (suc n) (suc u) h k = zero-from l n u h (omega arith)

all_from : (l : List ℕ) (n : ℕ) → ((u : ℕ) → n ≤ u → get_or l u 0 ≡ 0) → So (all is_zero (drop n l))
all_from [] zero h = refl
all_from [] (suc n) h = refl
all_from (x ∷ l) zero h = and-join (is_zero x) (all is_zero l) (eq_so x 0 (h 0 (omega arith))) (all_from l zero (λ u k. h (suc u) (omega arith)))
all_from (x ∷ l) (suc n) h = all_from l n (λ u k. h (suc u) (omega arith))

module _ (o : Opening) (counts : List ℕ) (n : ℕ) where
  -- behind the opening's refusals
  abbrev own : Refusals
  own = (not (all is_zero (drop o.users counts)) gives MALFORMED) ∷ (ltb 12 (total counts) gives FULL) ∷ []

  testable : test_code o counts n ≡ 0 → Testable o counts n
  unfolding test_refusals open_refusals
  testable e =
      let (short, rest) = clear (test_refusals o counts n) refl e in
      let (undeclared, many) = clear_behind (open_refusals (unordered o)) own rest in
      record {
        long = ltb-false n 8192 short;
        opens = clear_code (open_refusals (unordered o)) (clear_front (open_refusals (unordered o)) own rest);
        declared = λ u k. zero-from counts o.users u (not-false (all is_zero (drop o.users counts)) undeclared) k;
        few = ltb-false 12 (total counts) many.0;
      }

  unrefused : Testable o counts n → test_code o counts n ≡ 0
  unfolding test_refusals open_refusals
  unrefused t =
      let d : all is_zero (drop o.users counts) ≡ true = all_from counts o.users t.declared in
      rw (le-ltb n 8192 t.long) (code-behind (open_refusals (unordered o)) own (clear (open_refusals (unordered o)) refl t.opens) ∙ rw (d, le-ltb 12 (total counts) t.few))

-- what the test's judgement says
judged : (o : Opening) → open_code (unordered o) ≡ 0 → (counts : List ℕ) → So (satisfied (policy o) 0 (actions_of o counts)) ↔ Counted o counts
judged o z counts =
    subst₂ (λ f U. So (satisfied (policy o) 0 (map f (listed 0 counts))) ↔ SatM o.rows U (policy o)) (sym same_notes) (counted-users counts)
    (satisfied-is-users (policy o) (formed-policy (unordered o) z) o.rows (listed 0 counts))
  where
    same_notes : noted_by o ≡ (λ u. note (policy o) (execution o.rows u))
    same_notes = fun_ext (λ u. noted-is-note (unordered o) z u (roles o.rows u))

-- the letters of a test: whether it is not refused, and its judgement
letters : (z s : Bool) {T P : Type 0} → So z ↔ T → (T → So s ↔ P)
    → ((cond z (cond s letter_y letter_n) 0 ≡ letter_y) ↔ (T × P)) × ((cond z (cond s letter_y letter_n) 0 ≡ letter_n) ↔ (T × (P → ⊥)))
letters true true h k =
    let t = h.0 refl in
    ((λ e. (t, (k t).0 refl), λ e. refl), (λ e. absurd (omega arith), λ e. absurd (e.1 ((k t).0 refl))))
letters true false h k =
    let t = h.0 refl in
    ((λ e. absurd (omega arith), λ e. never ((k t).1 e.1)), (λ e. (t, λ x. never ((k t).1 x)), λ e. refl))
letters false s h k = ((λ e. absurd (omega arith), λ e. never (h.1 e.0)), (λ e. absurd (omega arith), λ e. never (h.1 e.0)))

pub test-is-multiset : TestIsMultiset
unfolding test_of
test-is-multiset o counts n =
    letters (eqb (test_code o counts n) 0) (satisfied (policy o) 0 (actions_of o counts))
    (λ e. testable o counts n (so_eq (test_code o counts n) 0 e), λ t. eq_so (test_code o counts n) 0 (unrefused o counts n t)) (λ t. judged o t.opens counts)

-- ── what it leaves in the workspace ──
tested : (o : Opening) (counts before : List ℕ) → Testable o counts (length before) → test_workspace o counts before ≡ filled (policy o) (actions_of o counts) before
unfolding test_workspace
tested o counts before t = rw (unrefused o counts (length before) t)

pub test-fills-ascending : TestFillsAscending
unfolding test_workspace
test-fills-ascending o counts before users h e =
    let order : users ≡ listed 0 counts = (listed-is-ascending counts users).1 (h, e) in (
      λ t. tested o counts before t ∙ ap (λ l. filled (policy o) (map (noted_by o) l) before) (sym order),
      λ t. rw (ne_eqb (test_code o counts (length before)) 0 (λ z. t (testable o counts (length before) z))),
    )

pub test-leaves-same-words : TestLeavesSameWords
test-leaves-same-words o counts one other k s t h = word one s ∙ sym (word other t)
  where
    few : length (actions_of o counts) ≤ 12
    few = omega (arith, length-map (listed 0 counts) (noted_by o), listed-length 0 counts, s.few)

    word : (before : List ℕ) → Testable o counts (length before) → get_or (test_workspace o counts before) k 0 ≡ get_or (table_of (policy o) (actions_of o counts)) k 0
    word before t =
        ap (λ (l : List ℕ). get_or l k 0) (tested o counts before t)
        ∙ filled-word (policy o) (actions_of o counts) (pow_mono {j = 12} few) before k h
