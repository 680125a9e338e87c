-- The first operand begins behind the operator's word, where that leads, and ends where the term that begins there ends.
use Rattle.std.proofs.Common.{◌≡◌, ℕ, ◌+◌, List, [], ◌∷◌, length, take, drop, eqb, true, false, refl, sym, ◌∙◌, arith}
use Rattle.std.specs.Option.{MatchOption, unwrap_or}
use Rattle.std.specs.Prelude.{Option, Some, None}
use denote.Bor.{Bor}
use lib.Pointwise.{pointwise}
use Rattle.std.proofs.Math.ListN.{drop_of_length-le}
use mathlib.Core.Bool.{true≢false, and-true}
use Rattle.normal.specs.Private.{lead}
use Rattle.normal.proofs.first_operand.Goals as goal

stripped : (w : ℕ) (ws : List ℕ) (r : Option (Bor (List ℕ))) (b : Bor (List ℕ)) → b.now ≡ ws
    → MatchOption r (pointwise eqb (take 1 ws) (w ∷ []) ≡ false) (λ x. (pointwise eqb (take 1 ws) (w ∷ []) ≡ true) × (x.now ≡ drop 1 ws) × (length x.now + 1 ≡ length ws))
    → (unwrap_or r b).now ≡ drop (lead w ws) ws
stripped w [] None b e h = e ∙ sym (drop_of_length-le {A = ℕ} [] (omega arith))
stripped w [] (Some x) b e h = absurd (true≢false (sym h.0))
stripped w (z ∷ ws) None b e h = let d : eqb z w ≡ false = sym (and-true (eqb z w)) ∙ h in rw d e
stripped w (z ∷ ws) (Some x) b e h = let d : eqb z w ≡ true = sym (and-true (eqb z w)) ∙ h.0 in rw d h.1

pub returns-clause-operand : goal.returns-clause-operand
returns-clause-operand c =
    let vs = c.unwrap_or-operand.result.now in
    let a = c.args in
    let e : vs ≡ drop (lead a.op a.chain.now) a.chain.now = rw c.unwrap_or-operand.ensures (stripped a.op a.chain.now c.strip_prefix.result a.chain refl c.strip_prefix.ensures.cases) in
    rw (c.words_in.ensures.count, e)
