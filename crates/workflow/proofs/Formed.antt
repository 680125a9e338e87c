-- What a well-formed workflow says, part by part, and that what is read is well formed.
use Rattle.std.specs.Prelude.{Some}
use mathlib.Core.Path.{◌≡◌, refl, sym, ap, ap₂, ◌∙◌}
use mathlib.Core.Logic.{⊎_elim}
use mathlib.Core.Bool.{Bool, false, So, ◌&&◌, and-false, or-true, or-false}
use mathlib.Core.List.{List, [], ◌∷◌}
use Prim.Native.Nat.{ℕ, zero, suc, ◌+◌, ◌-◌, ◌*◌, ◌^◌, ◌≤◌, ◌<◌}
use native.Mathlib.Omega.{arith}
use borrow.Author.Tests.{leb-true, le-leb, lt-ltb, lt-leb, eqb-true, ne_eqb, not-true, not-false}
use lib.Dec.{leb, ltb, eqb}
use lib.ListN.{length, get_or, drop, replicate, length-append, length-replicate, length-take}
use lib.Seq.{drop_at}
use Rattle.soda.specs.Lists.{all}
use Rattle.soda.specs.Workflows.{Transitions, no_transition, leaves, deterministic, successor}
use Rattle.soda.specs.declared.Transition.{Transition}
use Rattle.soda.proofs.Bools.{never, by_test, and_split, and-join, or_split, so_eq, so_lt}
use Rattle.workflow.specs.declared.Workflow.{Workflow}
use Rattle.workflow.specs.Permissions.{low_first, permissions_ok, permissions_in, permission_rows}
use Rattle.workflow.specs.Workflows.{transitions_of, no_workflow, is_given, transition_ok, is_idle, workflow_ok, transition_at, transitions_in, workflow_of}
use Rattle.workflow.specs.Reading.{workflow_length_ok, says_workflow, are_empty, secure_ok, not_given, secure_of}
use Rattle.workflow.specs.Laws.{NotGivenIsZero, FormedIsDeterministic, SuccessorIsDeclared, OneAloneIsRefused, Read, ReadIsFormed}
use Rattle.workflow.proofs.Arrays.{listed-length}

-- ── the parts ──
-- a transition's states are declared, and its action is one of 64
pub transition_formed : (states : ℕ) (x : Transition) → So (transition_ok states x) → (x.state < states) × (x.next < states) × (x.action < 64)
transition_formed states x h =
    let (s, r) = and_split (ltb x.state states) (ltb x.next states && ltb x.action 64) h in
    let (n, a) = and_split (ltb x.next states) (ltb x.action 64) r in
    (so_lt x.state states s, so_lt x.next states n, so_lt x.action 64 a)

pub record WorkflowFormed (w : Workflow) : Type 0 where
  pub states_most : w.states ≤ 16
  pub count_most : w.count ≤ 64
  pub finals_declared : w.final_states < 2 ^ w.states
  pub transitions_ok : So (all (transition_ok w.states) (transitions_of w))
  pub apart : So (deterministic (transitions_of w))
  pub places_idle : So (all is_idle (drop w.count w.transitions))

module _ (w : Workflow) where
  abbrev finals-test : Bool
  finals-test = ltb w.final_states (2 ^ w.states)

  abbrev ok_test : Bool
  ok_test = all (transition_ok w.states) (transitions_of w)

  abbrev idle_test : Bool
  idle_test = all is_idle (drop w.count w.transitions)

  abbrev used-test : Bool
  used-test = ok_test && deterministic (transitions_of w)

  pub workflow-formed : So (workflow_ok w) → WorkflowFormed w
  unfolding workflow_ok
  workflow-formed h =
      let (s, r) = and_split (leb w.states 16) (leb w.count 64 && (finals-test && (used-test && idle_test))) h in
      let (c, r) = and_split (leb w.count 64) (finals-test && (used-test && idle_test)) r in
      let (f, r) = and_split finals-test (used-test && idle_test) r in
      let (u, i) = and_split used-test idle_test r in
      let (o, a) = and_split ok_test (deterministic (transitions_of w)) u in
      record {
        states_most = leb-true w.states 16 s;
        count_most = leb-true w.count 64 c;
        finals_declared = so_lt w.final_states (2 ^ w.states) f;
        transitions_ok = o;
        apart = a;
        places_idle = i;
      }

  pub is_workflow_formed : WorkflowFormed w → So (workflow_ok w)
  unfolding workflow_ok
  is_workflow_formed f =
      and-join (leb w.states 16) (leb w.count 64 && (finals-test && (used-test && idle_test))) (le-leb w.states 16 f.states_most)
      (and-join (leb w.count 64) (finals-test && (used-test && idle_test)) (le-leb w.count 64 f.count_most)
      (and-join finals-test (used-test && idle_test) (lt-ltb w.final_states (2 ^ w.states) f.finals_declared)
      (and-join used-test idle_test (and-join ok_test (deterministic (transitions_of w)) f.transitions_ok f.apart) f.places_idle)))

pub formed-is-deterministic : FormedIsDeterministic
formed-is-deterministic w h = (workflow-formed w h).apart

-- where a transition leads
leads : (states s a n : ℕ) (l : Transitions) → So (all (transition_ok states) l) → successor l s a ≡ Some n → n < states
leads states s a n [] h e = absurd (let z : ◌≡◌ {A = ℕ} 0 1 = cc in omega arith)
leads states s a n (x ∷ l) h e =
    let (o, r) = and_split (transition_ok states x) (all (transition_ok states) l) h in
    by_test (leaves s a x)
    (λ t. let z : Some x.next ≡ Some n = rw t at e in let q : x.next ≡ n = cc in omega (arith, (transition_formed states x o).1))
    λ t. leads states s a n l r (rw t at e)

pub successor-is-declared : SuccessorIsDeclared
successor-is-declared w s a n h e = leads w.states s a n (transitions_of w) (workflow-formed w h).transitions_ok e

-- ── a workflow that is not given ──
idle_zero : (x : Transition) → So (is_idle x) → x ≡ no_transition
idle_zero x h =
    let (s, r) = and_split (eqb x.state 0) (eqb x.action 0 && eqb x.next 0) h in
    let (a, n) = and_split (eqb x.action 0) (eqb x.next 0) r in
    let e : record { state = x.state; action = x.action; next = x.next } ≡ no_transition = rw (so_eq x.state 0 s, so_eq x.action 0 a, so_eq x.next 0 n) in
    e

idle_all : (l : Transitions) → So (all is_idle l) → l ≡ replicate (length l) no_transition
idle_all [] h = refl
idle_all (x ∷ l) h = let (i, r) = and_split (is_idle x) (all is_idle l) h in ap₂ ◌∷◌ (idle_zero x i) (idle_all l r)

-- without a state there is no transition
no_states : (l : Transitions) → So (all (transition_ok 0) l) → length l ≡ 0
no_states [] h = refl
no_states (x ∷ l) h = let (o, r) = and_split (transition_ok 0 x) (all (transition_ok 0) l) h in absurd (omega (arith, (transition_formed 0 x o).0))

pub not-given-is-zero : NotGivenIsZero
unfolding no_workflow
not-given-is-zero w long h e =
    let f = workflow-formed w h in
    let s : w.states ≡ 0 = eqb-true w.states 0 (not-false _ e) in
    let n : w.count ≡ 0 = omega (arith, no_states (transitions_of w) (rw s at f.transitions_ok), length-take w.count w.transitions) in
    let z : w.final_states ≡ 0 = omega (arith, rw s at f.finals_declared) in
    let t = idle_all w.transitions (rw n at f.places_idle) ∙ ap (λ (m : ℕ). replicate m no_transition) long in
    let e : record { transitions = w.transitions; final_states = w.final_states; states = w.states; count = w.count } ≡ no_workflow = rw (t, z, s, n) in
    e

-- and it is well formed
pub no_workflow-formed : So (workflow_ok no_workflow)
unfolding no_workflow workflow_ok
no_workflow-formed = refl

-- ── lengths of what is given ──
-- eight bytes a role, of at most 16
pub permissions-formed : (roles : ℕ) (b : List ℕ) → So (permissions_ok roles b) → (roles ≤ 16) × (length b ≡ roles * 8)
permissions-formed roles b h =
    let (m, n) = and_split (leb roles 16) (eqb (length b) (roles * 8)) h in
    (leb-true roles 16 m, so_eq (length b) (roles * 8) n)

-- four bytes, and three a transition
pub length-formed : (b : List ℕ) → So (workflow_length_ok b) → (4 ≤ length b) × (get_or b 1 0 ≤ 64) × (length b ≡ 4 + 3 * get_or b 1 0)
length-formed b h =
    let (l, r) = and_split (leb 4 (length b)) (leb (get_or b 1 0) 64 && eqb (length b) (4 + 3 * get_or b 1 0)) h in
    let (m, n) = and_split (leb (get_or b 1 0) 64) (eqb (length b) (4 + 3 * get_or b 1 0)) r in
    (leb-true 4 (length b) l, leb-true (get_or b 1 0) 64 m, so_eq (length b) (4 + 3 * get_or b 1 0) n)

-- no bytes are no workflow
pub says_nothing : (b : List ℕ) → length b ≡ 0 → says_workflow b ≡ false
unfolding says_workflow
says_nothing b e = rw (lt-leb 4 (length b) (omega arith))

-- ── one alone ──
pub one_alone_is_refused : OneAloneIsRefused
unfolding secure_ok
one_alone_is_refused roles permissions workflow least some none =
    rw (not-true (are_empty permissions workflow) some) (⊎_elim no_rows no_workflow_lem (or_split (eqb (length permissions) 0) (eqb (length workflow) 0) none))
  where
    no_rows : So (eqb (length permissions) 0) → (permissions_ok roles permissions && says_workflow workflow) ≡ false
    no_rows e =
        let z = so_eq (length permissions) 0 e in
        let q = ne_eqb (length permissions) (roles * 8) (λ n. omega arith) in
        rw (q, and-false (leb roles 16))

    no_workflow_lem : So (eqb (length workflow) 0) → (permissions_ok roles permissions && says_workflow workflow) ≡ false
    no_workflow_lem e = rw (says_nothing workflow (so_eq (length workflow) 0 e)) (and-false (permissions_ok roles permissions))

-- ── what is read ──
zeros : (n m : ℕ) → So (all (λ k. eqb k 0) (drop n (replicate m 0)))
zeros zero zero = refl
zeros zero (suc m) = zeros zero m
zeros (suc n) zero = refl
zeros (suc n) (suc m) = zeros n m

-- the workflow that bytes of the right length say has 64 places
places_of : (b : List ℕ) → So (workflow_length_ok b) → length (workflow_of b).transitions ≡ 64
unfolding workflow_of
places_of b h =
    let n = get_or b 1 0 in
    let m = (length-formed b h).1 in
    omega (arith, length-append (transitions_in b n) (replicate (64 - n) no_transition), listed-length (λ i. transition_at b (4 + 3 * i)) n, length-replicate (64 - n) no_transition)

-- there are 16 rows, and those past the roles are zero
module _ (roles : ℕ) (b : List ℕ) (h : So (permissions_ok roles b)) where
  abbrev some-rows : List ℕ
  some-rows = permissions_in roles b

  many : length some-rows ≡ roles
  many = listed-length (λ r. low_first 8 b (r * 8)) roles

  rows_of : length (permission_rows roles b) ≡ 16
  unfolding permission_rows
  rows_of = omega (arith, (permissions-formed roles b h).0, many, length-append some-rows (replicate (16 - length some-rows) 0), length-replicate {A = ℕ} (16 - length some-rows) 0)

  past_of : So (all (λ k. eqb k 0) (drop roles (permission_rows roles b)))
  unfolding permission_rows
  past_of = rw (drop_at some-rows (replicate (16 - length some-rows) 0) roles many) (zeros 0 (16 - length some-rows))

module _ (roles : ℕ) (permissions workflow : List ℕ) where
  -- both are in form
  read_both : So (permissions_ok roles permissions) → So (says_workflow workflow) → Read roles permissions workflow
  unfolding says_workflow secure_ok secure_of
  read_both p s =
      let (l, r) = and_split (workflow_length_ok workflow) (is_given (workflow_of workflow) && workflow_ok (workflow_of workflow)) s in
      let (g, f) = and_split (is_given (workflow_of workflow)) (workflow_ok (workflow_of workflow)) r in
      let e = and-join (permissions_ok roles permissions) (says_workflow workflow) p s in
      record {
        accepted = rw e (sym (or-true (are_empty permissions workflow)));
        given = rw e g;
        formed = rw e f;
        places = rw e (places_of workflow l);
        rows = rw e (rows_of roles permissions p);
        past = rw e (past_of roles permissions p);
        without = λ z. never (sym (rw e at z) ∙ g);
      }

  -- or not
  read_none : (permissions_ok roles permissions && says_workflow workflow) ≡ false → Read roles permissions workflow
  unfolding no_workflow secure_ok not_given secure_of
  read_none e = record {
    accepted = rw e (sym (or-false (are_empty permissions workflow)));
    given = rw e refl;
    formed = rw e no_workflow-formed;
    places = rw e refl;
    rows = rw e refl;
    past = rw e (zeros roles 16);
    without = rw e (λ z. refl);
  }

pub read_is-formed : ReadIsFormed
read_is-formed roles permissions workflow = by_test (permissions_ok roles permissions && says_workflow workflow)
    (λ e. let (p, s) = and_split (permissions_ok roles permissions) (says_workflow workflow) e in read_both roles permissions workflow p s)
    (read_none roles permissions workflow)
