-- Examples, computed: policy F of document 01 as text, and back.
use mathlib.Core.Path.{◌≡◌, refl}
use mathlib.Core.Bool.{true, not}
use mathlib.Core.List.{[], ◌∷◌}
use mathlib.Core.Option.{some}
use Rattle.soda.specs.Lists.{all}
use Rattle.soda.specs.Terms.{Term, everyone, role, set, ¬ᵗ◌, ◌⁺, ◌⊔ᵗ◌, ◌⊓ᵗ◌, ◌⊙◌, ◌⊗◌}
use Rattle.text.specs.Texts.{ascii, text, policy_text}
use Rattle.text.specs.Grammar.{is_found, parse}

abbrev F : Term
F = (role 0 ⊗ (role 2 ⊔ᵗ (role 0 ⊗ role 0))) ⊙ (everyone ⁺)

f_written : policy_text F ≡ ascii "policy: ((r0 apart (r2 or (r0 apart r0))) with plus all)"
f_written = refl

f_read : parse (ascii "((r0 apart (r2 or (r0 apart r0))) with plus all)") ≡ some F
unfolding parse
f_read = refl

set-written : text ((¬ᵗ set 0b1000000000001011) ⊓ᵗ role 10) ≡ ascii "(not {0,1,3,15} both r10)"
set-written = refl

set_read : parse (ascii "(not {0,1,3,15} both r10)") ≡ some ((¬ᵗ set 0b1000000000001011) ⊓ᵗ role 10)
unfolding parse
set_read = refl

-- no leading zero, nothing above 15, ascending, none twice, at least one, nothing before or behind the term, one space
refused : all (λ t. not (is_found (parse t))) (
    ascii "r07" ∷ ascii "r16" ∷ ascii "r" ∷ ascii "{1,0}" ∷ ascii "{0,0}" ∷ ascii "{}" ∷ ascii "{0,}" ∷ ascii "{0 ,1}" ∷ ascii "{01}"
    ∷ ascii "all " ∷ ascii " all" ∷ ascii "all\n" ∷ ascii "not  all" ∷ ascii "(all  or all)" ∷ ascii "(all or all" ∷ ascii "all or all" ∷ ascii "(all and all)"
    ∷ ascii "ALL" ∷ [] ∷ []) ≡ true
unfolding parse
refused = refl
