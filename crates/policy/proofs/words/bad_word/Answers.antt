-- The first word out of its room is the first that is not in the layout.
use Rattle.std.proofs.Common.{◌≡◌, ℕ, ◌<◌, Bool, false, true, not, ltb, cond, List, length, Option as Maybe, Some, None, IfSome, is_none, refl, sym, ◌∙◌, arith, rules, tests, one-add, lt-ltb, le-ltb, eqb-true}
use Rattle.std.specs.List.{position_or_len}
use Rattle.std.proofs.lemmas.Iterator.{YieldsList-from_slice}
use Rattle.std.proofs.lemmas.Iterator.Search.{position_from_yields_List}
use Rattle.std.proofs.lemmas.List.Recursion.{is_position_or_len}
use Rattle.soda.specs.Lists.{all, first_failing}
use Rattle.soda.proofs.Bools.{by_test}
use Rattle.soda.proofs.Lists.{one_fails, none_fails}
use Rattle.policy.specs.Words.{word_ok}
use Rattle.policy.proofs.words.bad_word.Goals as goal

-- the first word that fails a test is the first that passes its opposite
first-position : (f : ℕ → Bool) (ws : List ℕ) → first_failing f ws ≡ position_or_len (λ w. not (f w)) ws
first-position f = is_position_or_len (first_failing f) (λ w. not (f w)) refl λ w ws. by_test (f w) (λ e. rw e (sym (one-add (first_failing f ws)))) λ e. rw e

-- so what `position` finds says whether one fails, and where
found : (f : ℕ → Bool) (ws : List ℕ) (o : Maybe ℕ)
    → o ≡ cond (ltb (position_or_len (λ w. not (f w)) ws) (length ws)) (Some (position_or_len (λ w. not (f w)) ws)) None
    → (is_none o ≡ all f ws) × IfSome o (λ p. p ≡ first_failing f ws) × IfSome o (λ p. p < length ws)
found f ws o e = rw (e, ← first-position f ws) (by_test (all f ws)
    (λ t. let z : ltb (first_failing f ws) (length ws) ≡ false = le-ltb _ _ (let q = eqb-true _ _ (sym (none_fails ℕ f ws) ∙ t) in omega arith) in rw (t, z) (refl, tt, tt))
    λ t. let z : ltb (first_failing f ws) (length ws) ≡ true = lt-ltb _ _ (one_fails f ws t) in rw (t, z) (refl, refl, one_fails f ws t))

pub returns : goal.returns
returns c =
    let a = c.args in
    let h = found (word_ok a.users a.roles) a.words.now _ (
    position_from_yields_List (λ w. not (word_ok a.users a.roles w)) _ _ _ c.position.ensures.ran
    (YieldsList-from_slice a.words.now cc) (λ x b q k. search (rules, tests))) in
    record { none = h.0; place = h.1; inside = h.2 }
