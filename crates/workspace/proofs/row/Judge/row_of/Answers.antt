-- What the steps ensure makes the row (`Judging`).
use Rattle.std.proofs.Common.{◌-◌, ◌||◌, length, bit_and, sym, subst, ap, ◌∙◌}
use Rattle.soda.specs.Bits.{bit}
use Rattle.shape.specs.Shapes.{right_sides}
use Rattle.rows.proofs.Digits.{bit-or, in_both}
use Rattle.workspace.specs.Private.{Next, Listing}
use Rattle.workspace.proofs.Subterms.{rights-length, ascending}
use Rattle.workspace.proofs.Walk.{last_part, first_part}
use Rattle.workspace.specs.Workspace.{select}
use Rattle.workspace.specs.Private.{RowIs}
use Rattle.workspace.proofs.Select.{length-select, ones_none, select-none, some-ones}
use Rattle.workspace.proofs.Judging.{row_is, empty_row}
use Rattle.workspace.proofs.row.Judge.row_of.Goals as goal

pub returns-then-ones-eq0 : goal.returns-then-ones-eq0
returns-then-ones-eq0 c φ l u h k n =
    let a = c.args in
    let m = a.self.now.masks in
    subst (λ t. RowIs φ t m.first m.first) (sym (ap (λ x. select x l) (ones_none a.s c.if-ones-eq0.true) ∙ select-none l))
    (empty_row φ m a.self.now.operators.now u)

pub returns : goal.returns
returns c φ l u h k n =
    let a = c.args in
    let m = a.self.now.masks in
    let ops = a.self.now.operators.now in
    let some = some-ones a.s c.if-ones-eq0.false in
    let after : Next a.s a.t = c.requires.2 some in
    let met = c.packed in
    let base = c.base_of in
    let found = c.joints-found in
    row_is {φ = φ} {l = l} {m = m} {ops = ops} {sets = a.sets.now} {s = a.s} {met = met.result} {joint = found.result}
    (record {
      suited = u;
      known = k;
      some = c.if-ones-eq0.false;
      count = length-select l a.s h;
      noted = λ e i b. in_both e a.met met.result i b met.ensures ∙ n i b;
      one = a.t;
      two = bit_and a.s (a.s - 1);
      parts = (last_part after, first_part a.s some);
      chance = c.chance-joint.result;
      chances = c.chance-joint.ensures;
      joined = found.ensures;
      is_base = λ q. bit-or q base.result found.result ∙ ap (λ b. b || bit q found.result) (base.ensures q);
      finished = c.finish.ensures (right_sides 0 φ) (ascending φ u.formed u.short)
          (subst (Listing m.either m.both (right_sides 0 φ) ops (length ops)) (sym (rights-length 0 φ)) u.listed);
    })
