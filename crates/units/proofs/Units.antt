-- The words that begin unit terms: a term has one, so that a mask without any says that there is no well-formed term. And what each of
-- several users meets.
use mathlib.Core.Path.{◌≡◌, refl, ◌∙◌, ap}
use mathlib.Core.Bool.{Bool, true, false, ◌&&◌, cond}
use mathlib.Core.List.{List, map, map-append}
use mathlib.Core.Option.{Option, some, none}
use Prim.Native.Nat.{ℕ, ◌-◌}
use native.Mathlib.Omega.{arith}
use lib.ListN.{length, replicate, length-map, get_or-append}
use lib.Dec.{eqb}
use borrow.Author.Tests.{le-leb, eqb-true, eqb-false}
use Rattle.std.specs.Prelude.{Some, None}
use Rattle.soda.specs.Bits.{number}
use Rattle.soda.specs.Lists.{range}
use Rattle.soda.specs.Roles.{roles}
use Rattle.soda.specs.Terms.{Term, everyone, role, set, ¬ᵗ◌, ◌⁺, bin, unit, well_formed, subterms, marks}
use Rattle.soda.proofs.Bools.{by_test}
use Rattle.soda.proofs.Lists.{range_length, map_below}
use Rattle.soda.proofs.Unassigned.{unassigned_notes_nothing}
use Rattle.policy.specs.Words.{decode}
use Rattle.policy.specs.Reading.{length_ok, is_formed, units_of}
use Rattle.policy.proofs.Masks.{number_append}
use Rattle.units.specs.Units.{nonzero, unit_words, met_in, met_of, met_each, EachIsMet, UnassignedMeetsNone, SomeUnit, OneTerm, ZeroIsNoTerm, ElseOneTerm}

pub some-unit : SomeUnit
some-unit everyone = omega arith
some-unit (role r) = omega arith
some-unit (set m) = omega arith
some-unit (¬ᵗ φ) = omega (arith, some-unit φ)
some-unit (φ ⁺) = omega (arith, some-unit φ)
some-unit (bin op φ ψ) =
    omega (
      arith,
      some-unit φ,
      ap number (map-append unit (subterms φ) (subterms ψ)),
      number_append (map unit (subterms φ)) (map unit (subterms ψ)),
    )

-- the mask of a term's words
units-are : (ws : List ℕ) (φ : Term) → OneTerm ws φ → unit_words ws ≡ marks unit φ
unfolding unit_words
units-are ws φ o = rw (o.long, o.is, o.formed)

-- what `units_of` of src answers
pub none_is-zero : (n : ℕ) → None ≡ nonzero n → n ≡ 0
none_is-zero n e = by_test (eqb n 0) (eqb-true n 0) (λ f. absurd (let d = rw f at e in cc))

pub some_is-mask : (m n : ℕ) → Some m ≡ nonzero n → (m ≡ n) × (n ≡ 0 → ⊥)
some_is-mask m n e = by_test (eqb n 0)
    (λ t. absurd (let d = rw t at e in cc))
    λ f. ((let d = rw f at e in cc), eqb-false n 0 f)

pub zero-is_no_term : ZeroIsNoTerm
zero-is_no_term ws e φ o = omega (arith, e, units-are ws φ o, some-unit φ)

pub else_one-term : ElseOneTerm
unfolding unit_words
else_one-term ws n = go (length_ok (length ws)) (decode ws) refl refl n
  where
    given : (φ : Term) → OneTerm ws φ → (φ : Term) × OneTerm ws φ × (unit_words ws ≡ marks unit φ)
    given φ o = (φ, o, units-are ws φ o)

    go : (b : Bool) (x : Option Term) → length_ok (length ws) ≡ b → decode ws ≡ x → (cond (b && is_formed x) (units_of x) 0 ≡ 0 → ⊥)
        → (φ : Term) × OneTerm ws φ × (unit_words ws ≡ marks unit φ)
    go false x l d n = absurd (n refl)
    go true none l d n = absurd (n refl)
    go true (some φ) l d n = given φ (record { long = l; is = d; formed = by_test (well_formed φ) (λ f. f) (λ f. absurd (n (rw f))) })

pub unassigned_meets-none : UnassignedMeetsNone
unfolding met_of
unassigned_meets-none ws u = go (length_ok (length ws)) (decode ws)
  where
    go : (b : Bool) (x : Option Term) → cond b (met_in x u 0) 0 ≡ 0
    go true none = refl
    go true (some φ) = unassigned_notes_nothing φ u
    go false x = refl

pub each-is_met : EachIsMet
unfolding met_each
each-is_met ws rows u few h =
    let f : ℕ → ℕ = λ v. met_of ws v (roles rows v) in
    let mets = map f (range 0 (length rows)) in
    rw (le-leb (length rows) 16 few)
    (get_or-append mets (replicate (16 - length mets) 0) 0 u (omega (arith, length-map (range 0 (length rows)) f, range_length 0 (length rows)))
    ∙ map_below f 0 (length rows) u h)
