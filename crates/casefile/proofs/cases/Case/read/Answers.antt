-- The length, the pairs and the parts are tested in turn, as the definition has them.
use Rattle.std.proofs.Common.{◌≡◌, ◌≤◌, ◌&&◌, Bool, true, false, cond, List, ℕ, length, Some, None, refl, sym, ap, ◌∙◌, leb, le-leb, arith}
use borrow.Author.Tests.{lt-leb}
use Rattle.std.specs.Bool.{then_some}
use Rattle.casefile.specs.declared.cases.Case.{Case}
use Rattle.casefile.specs.declared.pairs.Part.{Part}
use Rattle.casefile.specs.Cases.{has_five, pairs_ok, parts_ok, lengths_ok, case_ok}
use Rattle.casefile.specs.Private.{part_at, case_of, behind_joined, are_joined, are_measured}
use Rattle.casefile.proofs.cases.Case.read.Goals as goal
use Rattle.casefile.proofs.cases.Case.read.Goals.{then-are_joined, else-are_joined}

regrouped : (x y z : Bool) → (x && (y && z)) ≡ ((x && y) && z)
regrouped true y z = refl
regrouped false y z = refl

tested : (b : List ℕ) → length b ≤ 4096 → case_ok b ≡ ((leb 12 (length b) && pairs_ok b) && (parts_ok b && lengths_ok b))
unfolding case_ok
tested b h = rw (le-leb (length b) 4096 h) (regrouped (leb 12 (length b)) (pairs_ok b) (parts_ok b && lengths_ok b))

by-five : (n : ℕ) (events : Part) (p : Part × Part) (five : Bool)
    → behind_joined n events (cond five (Some p) None) ≡ cond five (behind_joined n events (Some p)) (behind_joined n events None)
by-five n events p true = refl
by-five n events p false = refl

joined-is : (b : List ℕ) → are_joined (case_of b) (length b) ≡ parts_ok b
joined-is b = rw (by-five (length b) (part_at b 2) (part_at b 3, part_at b 4) (has_five b))

-- what is left of a case whose pairs are as t says, and whose parts are as u says
refused : (t u : Bool) (x : Case) → None ≡ cond t (Some x) None → None ≡ cond (t && u) (Some x) None
refused true u x e = cc
refused false u x e = refl

given : (t u v : Bool) (x y : Case) → Some y ≡ cond t (Some x) None → (y ≡ x → v ≡ u) → then_some v y ≡ cond (t && u) (Some x) None
given true u v x y e f = let g : y ≡ x = cc in rw (f g, g) (chosen u x)
  where
    chosen : (u : Bool) (x : Case) → then_some u x ≡ cond u (Some x) None
    chosen true x = refl
    chosen false x = refl
given false u v x y e f = cc

both : (a x y v : Bool) → a ≡ x → a ≡ true → v ≡ y → v ≡ (x && y)
both a x y v e t f = rw (sym e ∙ t) f

neither : (a x y v : Bool) → a ≡ x → a ≡ false → v ≡ a → v ≡ (x && y)
neither a x y v e t f = rw (sym e ∙ t) (f ∙ t)

pub returns-then-bytes-gt-LARGEST : goal.returns-then-bytes-gt-LARGEST
unfolding case_ok
returns-then-bytes-gt-LARGEST c =
    let n = length c.args.bytes.now in
    let long : 12 ≤ n = omega arith in
    rw (le-leb 12 n long, lt-leb n 4096 (omega arith))

pub returns-in_err-case : goal.returns-in_err-case
returns-in_err-case c =
    let b : List ℕ = c.args.bytes.now in
    rw (tested b (omega arith))
    (c.from_residual.ensures ∙ refused (leb 12 (length b) && pairs_ok b) (parts_ok b && lengths_ok b) (case_of b) (sym c.in_err-case.was ∙ c.of_pairs.ensures))

pub returns : goal.returns
returns c =
    let b : List ℕ = c.args.bytes.now in
    let d : Case = c.in_ok-case.case in
    let v : c.if-are_joined.then_some ≡ (are_joined d (length b) && are_measured d) = elim c.if-are_joined.branch [
      | then-are_joined w ↦ both _ _ _ _ c.are_joined.ensures w.if-are_joined.true (w.then_some-is ∙ w.are_measured.ensures)
      | else-are_joined w ↦ neither _ _ _ _ c.are_joined.ensures w.if-are_joined.false w.then_some-is
    ] in
    rw (tested b (omega arith))
    (c.then_some.ensures
    ∙ given (leb 12 (length b) && pairs_ok b) (parts_ok b && lengths_ok b) _ (case_of b) d (sym c.in_ok-case.was ∙ c.of_pairs.ensures)
    (λ e. v ∙ ap (λ (x : Case). are_joined x (length b) && are_measured x) e ∙ ap (λ (p : Bool). p && lengths_ok b) (joined-is b)))
