-- The places that the reader finds are those that the definitions say.
use Rattle.std.proofs.Common.{◌≡◌, ℕ, ◌/◌, ◌^◌, ◌≤◌, Bool, true, false, List, [], ◌∷◌, ◌++◌, map, length, get_or, sym, refl, ap, ◌∙◌, append_assoc, append-nil, arith}
use mathlib.Core.List.{map-append}
use mathlib.Core.Option.{Option, some, none}
use Rattle.soda.specs.Bits.{number}
use Rattle.soda.specs.Lists.{first_failing}
use Rattle.soda.specs.Terms.{Term, everyone, role, set, ¬ᵗ◌, ◌⁺, bin, unit, size, subterms, marks}
use Rattle.soda.proofs.Bits.{half-digit, bit-number}
use Rattle.soda.proofs.Lists.{failing_map}
use Rattle.policy.specs.Words.{first, decode}
use Rattle.policy.specs.Faults.{left_over, over_unit}
use Rattle.policy.specs.Private.{over_units}
use Rattle.policy.proofs.Grammar.{Begins, begins1, begins2, begins3, begins4, begins5, begins_op, op_sides, begins, length_begins, begins_whole}

-- ── 3 ──
pub left-over_most : (ws : List ℕ) → left_over (first ws) (length ws) ≤ length ws
left-over_most ws = go (first ws) refl
  where
    go : (x : Option Term) → first ws ≡ x → left_over x (length ws) ≤ length ws
    go none e = omega arith
    go (some φ) e = omega (arith, length_begins (begins ws φ e))

-- ── 4 ──
-- the first of a term's flags is its own
own_flag : (φ : Term) (us : List Bool) → get_or (map unit (subterms φ) ++ us) 0 false ≡ unit φ
own_flag everyone us = refl
own_flag (role r) us = refl
own_flag (set m) us = refl
own_flag (¬ᵗ φ) us = refl
own_flag (φ ⁺) us = refl
own_flag (bin op φ ψ) us = refl

half : (b : Bool) (us : List Bool) → number (b ∷ us) / 2 ^ 1 ≡ number us
half b us = half-digit b (number us)

-- the words of a term, tested by its flags, and what follows them
over_begins : {ws rest : List ℕ} {φ : Term} → Begins ws φ rest → (us : List Bool)
    → over_units (number (map unit (subterms φ) ++ us)) ws ≡ map over_unit (subterms φ) ++ over_units (number us) rest
over_begins (begins1 e) us = rw (e, half true us)
over_begins (begins2 e) us = rw (e, half true us)
over_begins (begins3 e) us = rw (e, half true us)
over_begins (begins4 {φ = φ} e b) us =
    let vs = map unit (subterms φ) ++ us in
    rw (e, half (unit φ) vs, bit-number vs 0, own_flag φ us) (ap (λ (l : List Bool). unit φ ∷ l) (over_begins b us))
over_begins (begins5 {φ = φ} e b) us =
    let vs = map unit (subterms φ) ++ us in
    rw (e, half false vs, bit-number vs 0, own_flag φ us) (ap (λ (l : List Bool). unit φ ∷ l) (over_begins b us))
over_begins (begins_op {ws = ws} {vs = vs} {rest = rest} {op = op} {φ = φ} {ψ = ψ} e b c) us =
    let own = unit (bin op φ ψ) in
    let m : map unit (subterms φ ++ subterms ψ) ++ us ≡ map unit (subterms φ) ++ (map unit (subterms ψ) ++ us) =
    ap (λ (l : List Bool). l ++ us) (map-append unit (subterms φ) (subterms ψ)) ∙ append_assoc (map unit (subterms φ)) (map unit (subterms ψ)) us in
    let n : map over_unit (subterms φ) ++ (map over_unit (subterms ψ) ++ over_units (number us) rest) ≡ map over_unit (subterms φ ++ subterms ψ) ++ over_units (number us) rest =
    sym (append_assoc (map over_unit (subterms φ)) (map over_unit (subterms ψ)) (over_units (number us) rest))
    ∙ ap (λ (l : List Bool). l ++ over_units (number us) rest) (sym (map-append over_unit (subterms φ) (subterms ψ))) in
    rw (e, op_sides op, half own (map unit (subterms φ ++ subterms ψ) ++ us), m)
    (ap (λ (l : List Bool). true ∷ l) (over_begins b (map unit (subterms ψ) ++ us) ∙ ap (λ (l : List Bool). map over_unit (subterms φ) ++ l) (over_begins c us) ∙ n))

pub over_is : (ws : List ℕ) (φ : Term) → decode ws ≡ some φ → first_failing (λ b. b) (over_units (marks unit φ) ws) ≡ first_failing over_unit (subterms φ)
over_is ws φ e =
    ap (first_failing (λ b. b))
    (ap (λ (l : List Bool). over_units (number l) ws) (sym (append-nil (map unit (subterms φ))))
    ∙ over_begins (begins_whole ws φ e) []
    ∙ append-nil (map over_unit (subterms φ)))
    ∙ failing_map over_unit (λ b. b) (subterms φ)

pub length_decoded : (ws : List ℕ) (φ : Term) → decode ws ≡ some φ → length ws ≡ size φ
length_decoded ws φ e = omega (arith, length_begins (begins_whole ws φ e))
