-- The table says whether a transition before has the state and the action of the next one: where one has, its action adds nothing.
use Rattle.std.proofs.Common.{ℕ, ◌≡◌, ◌+◌, ◌^◌, false, true, sym, ◌∙◌, arith}
use Rattle.std.proofs.lemmas.Nat.{pow_pos}
use Rattle.soda.specs.Bits.{bit, set_bit}
use Rattle.soda.proofs.Bools.{by_test}
use Rattle.workflow.proofs.Seen.{kept_twice, kept_more}
use Rattle.workflow.proofs.transitions.transitions_ok.Goals as goal

held : (i n : ℕ) → set_bit i n ≡ n → bit i n ≡ true
unfolding set_bit
held i n e = by_test (bit i n) (λ t. t) λ f. let more : n + 2 ^ i ≡ n = rw f at e in absurd (omega (arith, more, pow_pos i))

fresh : (i n : ℕ) → (set_bit i n ≡ n → ⊥) → bit i n ≡ false
unfolding set_bit
fresh i n other = by_test (bit i n) (λ t. absurd (other (rw t))) λ f. f

pub returns-then-actions-seen : goal.returns-then-actions-seen
returns-then-actions-seen c =
    kept_twice c.loop-transition.invariant (omega arith) c.requires (sym c.transition_ok.ensures ∙ c.if-not-transition_ok.false) (held _ _ (sym c.with_one-actions.ensures ∙ c.if-actions-seen.true))

pub loop-transition-preserved : goal.loop-transition-preserved
loop-transition-preserved c =
    kept_more c.loop-transition.invariant (omega arith) c.requires (sym c.transition_ok.ensures ∙ c.if-not-transition_ok.false)
    (fresh _ _ (λ e. c.if-actions-seen.false (c.with_one-actions.ensures ∙ e))) _ c.with_one-actions.ensures
