-- The table of what was seen, of each state the set of the actions of the transitions so far, tells whether two transitions have the same
-- state and action.
use mathlib.Core.Path.{◌≡◌, refl, sym, ap, ap₂, ◌∙◌}
use mathlib.Core.Bool.{Bool, true, false, So, not, ◌&&◌, ◌||◌, and-true, and-false}
use mathlib.Core.List.{List, [], ◌∷◌, ◌++◌}
use Prim.Native.Nat.{ℕ, ◌+◌, ◌≤◌, ◌<◌}
use native.Mathlib.Omega.{arith}
use native.Mathlib.Numerals.{add-one}
use borrow.Author.Tests.{eqb-false}
use lib.Dec.{eqb}
use lib.ListN.{length, get_or, set, take, drop, replicate, length-set, get_or-replicate}
use lib.Seq.{take_all, take-suc, get_or-set_same, get_or-set_other}
use Rattle.soda.specs.Bits.{bit, set_bit}
use Rattle.soda.specs.Lists.{any, all}
use Rattle.soda.specs.Workflows.{Transitions, no_transition, leaves, deterministic}
use Rattle.soda.specs.declared.Transition.{Transition}
use Rattle.soda.proofs.Bits.{bit_of_zero, bit-set_bit}
use Rattle.soda.proofs.Bools.{never, not_so, and-join, so_eq, eqb_swap}
use Rattle.soda.proofs.Workflows.{deterministic_append}
use Rattle.workflow.specs.Workflows.{transition_ok}
use Rattle.workflow.proofs.Formed.{transition_formed}
use Rattle.workflow.proofs.Determinism.{any-more, deterministic-first}
use Rattle.soda.proofs.Loops.{next, end}

abbrev pub Seen : List ℕ → Transitions → Type 0
Seen seen l = (s a : ℕ) → s < 16 → bit a (get_or seen s 0) ≡ any (leaves s a) l

seen_none : Seen (replicate 16 0) []
seen_none s a h = ap (bit a) (get_or-replicate 16 s 0 0 h) ∙ bit_of_zero a

-- with the next transition
seen_more : (seen : List ℕ) (l : Transitions) (x : Transition) → length seen ≡ 16 → x.state < 16 → Seen seen l
    → Seen (set seen x.state (set_bit x.action (get_or seen x.state 0))) (l ++ (x ∷ []))
seen_more seen l x n h k s a r = at (eqb x.state s) refl ∙ sym (any-more (leaves s a) l x)
  where
    row : ℕ
    row = set_bit x.action (get_or seen x.state 0)

    at : (b : Bool) → eqb x.state s ≡ b → bit a (get_or (set seen x.state row) s 0) ≡ (b && eqb x.action a || any (leaves s a) l)
    at true e =
        let q = so_eq x.state s e in
        ap (λ (j : ℕ). bit a (get_or (set seen x.state row) j 0)) (sym q)
        ∙ ap (bit a) (get_or-set_same seen x.state row 0 (omega arith))
        ∙ bit-set_bit x.action a (get_or seen x.state 0)
        ∙ ap₂ ◌||◌ (eqb_swap a x.action) (ap (λ (j : ℕ). bit a (get_or seen j 0)) q ∙ k s a r)
    at false e = ap (bit a) (get_or-set_other seen x.state s row 0 (λ z. eqb-false x.state s e (sym z))) ∙ k s a r

-- ── what a loop keeps that tests the transitions ys one by one, and is at place i ──
pub record Kept (states : ℕ) (ys : Transitions) (seen : List ℕ) (i : ℕ) : Type 0 where
  pub rows : length seen ≡ 16
  pub within : i ≤ length ys
  pub rest : all (transition_ok states) ys ≡ all (transition_ok states) (drop i ys)
  pub apart : So (deterministic (take i ys))
  pub table : Seen seen (take i ys)

pub kept-none : (states : ℕ) (ys : Transitions) → Kept states ys (replicate 16 0) 0
kept-none states ys = record { rows = refl; within = omega arith; rest = refl; apart = refl; table = seen_none }

module _ {states : ℕ} {ys : Transitions} {seen : List ℕ} {i : ℕ} (k : Kept states ys seen i) where
  pub kept-all : length ys ≤ i → true ≡ (all (transition_ok states) ys && deterministic ys)
  kept-all h =
      sym
      (and-join (all (transition_ok states) ys) (deterministic ys) (end (all (transition_ok states)) ys no_transition i k.rest h) (rw (take_all i ys h) at k.apart))

  module _ (h : i < length ys) where
    abbrev x : Transition
    x = get_or ys i no_transition

    turn : (b : Bool) → transition_ok states x ≡ b → all (transition_ok states) ys ≡ (b && all (transition_ok states) (drop (i + 1) ys))
    turn b t =
        next (all (transition_ok states)) ys no_transition i k.rest h
        ∙ ap (λ (c : Bool). c && all (transition_ok states) (drop (i + 1) ys)) t

    -- the next one is not as it must be
    pub kept_fails : transition_ok states x ≡ false → false ≡ (all (transition_ok states) ys && deterministic ys)
    kept_fails t = sym (ap (λ (b : Bool). b && deterministic ys) (turn false t))

    module _ (few : states ≤ 16) (t : transition_ok states x ≡ true) where
      row : x.state < 16
      row = omega (arith, (transition_formed states x t).0)

      front : take (i + 1) ys ≡ take i ys ++ (x ∷ [])
      front = ap (λ (n : ℕ). take n ys) (add-one i) ∙ take-suc ys i no_transition h

      -- with the next one: the table says whether one before has its state and action
      more : (b : Bool) → bit x.action (get_or seen x.state 0) ≡ b → deterministic (take (i + 1) ys) ≡ (deterministic (take i ys) && not b)
      more b e =
          ap deterministic front ∙ deterministic_append (take i ys) x
          ∙ ap (λ (c : Bool). deterministic (take i ys) && not c) (sym (k.table x.state x.action row) ∙ e)

      -- one has
      pub kept_twice : bit x.action (get_or seen x.state 0) ≡ true → false ≡ (all (transition_ok states) ys && deterministic ys)
      kept_twice e =
          let twice : deterministic (take (i + 1) ys) ≡ false = more true e ∙ and-false (deterministic (take i ys)) in
          let no = not_so (deterministic ys) (λ d. never (sym twice ∙ deterministic-first (i + 1) ys d)) in
          sym (ap (λ (b : Bool). all (transition_ok states) ys && b) no ∙ and-false (all (transition_ok states) ys))

      -- none has: the loop goes on, with its row of the table as n
      pub kept_more : bit x.action (get_or seen x.state 0) ≡ false → (n : ℕ) → n ≡ set_bit x.action (get_or seen x.state 0)
          → Kept states ys (set seen x.state n) (i + 1)
      kept_more e n is = record {
        rows = length-set seen x.state n ∙ k.rows;
        within = omega arith;
        rest = turn true t;
        apart = more false e ∙ and-true (deterministic (take i ys)) ∙ k.apart;
        table = rw (is, front) (seen_more seen (take i ys) x k.rows row k.table);
      }
