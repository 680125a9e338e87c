-- One more word is copied; where all are, nothing else is left.
use Rattle.std.proofs.Common.{◌≡◌, ℕ, ◌+◌, List, ◌++◌, length, get_or, set, sym, refl, ap, ◌∙◌, add-one, arith, append-nil}
use Rattle.std.proofs.Math.ListN.{length-set, drop_of_length-le}
use Rattle.std.proofs.Math.Seq.{paste, paste-suc}
use Rattle.std.proofs.lemmas.List.Edits.{paste_all}
use Rattle.normal.proofs.copy.Goals as goal

pub loop-i-preserved : goal.loop-i-preserved
loop-i-preserved c =
    let a = c.args in
    let l = c.loop-i in
    let v = get_or a.src.now l.i 0 in
    let z : l.i ≡ 0 + l.i = omega arith in (
      length-set l.out l.i v ∙ l.invariant.0,
      ap (λ (o : List ℕ). set o l.i v) l.invariant.1
          ∙ ap (λ (k : ℕ). set (paste a.out.now 0 a.src.now l.i) k v) z
          ∙ paste-suc a.out.now 0 a.src.now l.i 0 (omega arith) (omega arith)
          ∙ ap (paste a.out.now 0 a.src.now) (sym (add-one l.i)),
    )

pub returns : goal.returns
returns c =
    let a = c.args in
    let l = c.loop-i in
    let e : l.i ≡ length a.src.now = omega arith in
    l.invariant.1
    ∙ ap (paste a.out.now 0 a.src.now) e
    ∙ paste_all a.out.now 0 a.src.now (length a.src.now) refl
    ∙ ap (λ (r : List ℕ). a.src.now ++ r) (drop_of_length-le a.out.now (omega arith))
    ∙ append-nil a.src.now
