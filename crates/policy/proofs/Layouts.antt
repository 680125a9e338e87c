-- Words in the layout are of known kinds.
use Rattle.std.proofs.Common.{◌≡◌, ℕ, ◌*◌, ◌/◌, ◌%◌, ◌^◌, ◌<◌, Bool, false, ◌&&◌, eqb, leb, List, [], ◌∷◌, sym, refl, ap, ◌∙◌, true≢false, mod-eq_of_lt, one-mul}
use mathlib.Core.Bool.{So, and_assoc, and-false}
use lib.Pow.{pow-lt}
use Rattle.soda.specs.Lists.{all}
use Rattle.soda.proofs.Bools.{by_test, and_split, and-join}
use Rattle.policy.specs.Kinds.{EVERYONE, APART}
use Rattle.policy.specs.Words.{kind, operand, operand_ok, word_ok, known}
use Rattle.policy.specs.Private.{all_known}

pub one_shl : (i : ℕ) → i < 32 → (1 * 2 ^ i) % 2 ^ 32 ≡ 2 ^ i
one_shl i h = rw one-mul (mod-eq_of_lt (pow-lt h))

-- a kind that is none of the table's
pub no_kind : (users roles w : ℕ) → known (kind w) ≡ false → word_ok users roles w ≡ false
no_kind users roles w e =
    ap (λ (b : Bool). eqb (w / 2 ^ 16 % 2 ^ 8) 0 && b) (sym (and_assoc (leb EVERYONE (kind w)) (leb (kind w) APART) (operand_ok users roles (kind w) (operand w))) ∙ rw e)
    ∙ and-false (eqb (w / 2 ^ 16 % 2 ^ 8) 0)

-- so words in the layout are of known kinds
pub layout-known : (users roles : ℕ) (ws : List ℕ) → So (all (word_ok users roles) ws) → So (all_known ws)
layout-known users roles [] h = refl
layout-known users roles (w ∷ ws) h =
    let s = and_split (word_ok users roles w) (all (word_ok users roles) ws) h in
    let k = by_test (known (kind w)) (λ t. t) (λ f. absurd (true≢false (sym s.0 ∙ no_kind users roles w f))) in
    and-join (known (kind w)) (all_known ws) k (layout-known users roles ws s.1)
