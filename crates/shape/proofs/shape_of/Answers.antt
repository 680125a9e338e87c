-- What is found of the words, their kinds and the right sides, where they are one term of a policy's length.
use Rattle.std.proofs.Common.{◌≡◌, ℕ, ◌-◌, ◌^◌, ◌≤◌, Bool, true, false, cond, List, length, bit_and, refl, sym, ◌∙◌, ap, arith}
use Rattle.std.proofs.Math.Option.{Option, some, none}
use Rattle.std.specs.Prelude.{Some, None}
use Rattle.soda.specs.Terms.{Op, either, both, together, apart, Term, unit, well_formed, size, marks}
use Rattle.soda.specs.Words.{op_kind}
use Rattle.soda.proofs.Bools.{by_test}
use Rattle.policy.specs.Words.{decode}
use Rattle.policy.specs.Reading.{length_ok}
use Rattle.policy.proofs.Grammar.{length_begins, begins_whole}
use Rattle.policy.proofs.Scanning.{length-range}
use Rattle.units.specs.Units.{nonzero, unit_words, OneTerm}
use Rattle.units.proofs.Units.{none_is-zero, some_is-mask, zero-is_no_term, else_one-term}
use Rattle.shape.specs.Shapes.{is_op, shape_in, shape_of}
use Rattle.shape.specs.Private.{of_kind, MasksOf, RightsOf}
use Rattle.shape.specs.declared.Masks.{Masks}
use Rattle.shape.proofs.Kinded.{plus-is, op_is}
use Rattle.shape.proofs.shape_of.Goals as goal

-- ── no term ──
no_shape_of : (ws : List ℕ) → None ≡ nonzero (unit_words ws) → None ≡ shape_of ws
unfolding shape_of
no_shape_of ws e = go (length_ok (length ws)) (decode ws) refl refl
  where
    go : (b : Bool) (x : Option Term) → length_ok (length ws) ≡ b → decode ws ≡ x → None ≡ shape_in (cond b x none)
    go false x l d = refl
    go true none l d = refl
    go true (some φ) l d = by_test (well_formed φ)
        (λ f. absurd (zero-is_no_term ws (none_is-zero (unit_words ws) e) φ (record { long = l; is = d; formed = f })))
        λ f. rw f

pub returns-in_err-units : goal.returns-in_err-units
returns-in_err-units c = c.from_residual.ensures ∙ no_shape_of c.args.words.now (sym c.in_err-units.was ∙ c.units_of.ensures)

-- ── the shape of a term ──
module _ (ws : List ℕ) (masks : Masks) (right : List ℕ) (φ : Term) (o : OneTerm ws φ) where
  is_shape : MasksOf ws masks → RightsOf ws right → Some (record {
    words = length ws;
    units = marks unit φ;
    plus = masks.plus;
    either = bit_and masks.either (2 ^ 32 - 1 - marks unit φ);
    both = bit_and masks.both (2 ^ 32 - 1 - marks unit φ);
    together = bit_and masks.together (2 ^ 32 - 1 - marks unit φ);
    apart = bit_and masks.apart (2 ^ 32 - 1 - marks unit φ);
    right = right;
  }) ≡ shape_of ws
  unfolding shape_of
  is_shape m r =
      rw (o.long, o.is, o.formed) λ i. Some (record {
        words = words i;
        units = marks unit φ;
        plus = (m.plus ∙ plus-is ws φ o.is) i;
        either = row either masks.either m.either i;
        both = row both masks.both m.both i;
        together = row together masks.together m.together i;
        apart = row apart masks.apart m.apart i;
        right = r φ o.is i;
      })
    where
      words : length ws ≡ size φ
      words = omega (arith, length_begins (begins_whole ws φ o.is))

      row : (op : Op) (m : ℕ) → m ≡ of_kind (op_kind op) ws → bit_and m (2 ^ 32 - 1 - marks unit φ) ≡ marks (is_op op) φ
      row op m e = ap (λ (n : ℕ). bit_and n (2 ^ 32 - 1 - marks unit φ)) e ∙ op_is ws φ o.is (length-range (length ws) o.long).1 op

-- the words are one term
one : (ws : List ℕ) (units : ℕ) → Some units ≡ nonzero (unit_words ws) → (φ : Term) × OneTerm ws φ × (units ≡ marks unit φ)
one ws units e =
    let s = some_is-mask units (unit_words ws) e in
    let t = else_one-term ws s.1 in
    (t.0, t.1, s.0 ∙ t.2)

short : (ws : List ℕ) (units : ℕ) → Some units ≡ nonzero (unit_words ws) → length ws ≤ 31
short ws units e = (length-range (length ws) (one ws units e).1.long).1

pub kind_masks-masks-requires : goal.kind_masks-masks-requires
kind_masks-masks-requires c = short c.args.words.now _ (sym c.in_ok-units.was ∙ c.units_of.ensures)

pub rights-right-requires : goal.rights-right-requires
rights-right-requires c = short c.args.words.now _ (sym c.in_ok-units.was ∙ c.units_of.ensures)

pub overflow_cast-result : goal.overflow_cast-result
overflow_cast-result c = omega (arith, short c.args.words.now _ (sym c.in_ok-units.was ∙ c.units_of.ensures))

pub returns : goal.returns
returns c =
    let ws = c.args.words.now in
    let o = one ws _ (sym c.in_ok-units.was ∙ c.units_of.ensures) in
    rw o.2 (is_shape ws c.kind_masks-masks.result c.rights-right.result o.0 o.1 c.kind_masks-masks.ensures c.rights-right.ensures)
