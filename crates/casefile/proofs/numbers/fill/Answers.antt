-- One more number is put behind the others; at the end they are all.
use Rattle.std.proofs.Common.{◌≡◌, ℕ, length, take, sym, ap, ◌∙◌, arith}
use Rattle.std.proofs.Math.Seq.{take-length}
use Rattle.casefile.specs.Cases.{numbers}
use Rattle.casefile.proofs.Decoding.{filled_next}
use Rattle.casefile.proofs.numbers.fill.Goals as goal

pub loop-i-preserved : goal.loop-i-preserved
loop-i-preserved g c =
    let l = c.loop-i in
    filled_next (g.T.Number.at c.args.bytes.now) g.T.Number.WIDTH l.places c.args.k l.i c.read.result (omega arith) l.invariant (rw c.WIDTH.ensures at c.read.ensures)

pub returns : goal.returns
returns g c =
    let l = c.loop-i in
    let past : l.i ≡ length c.args.places.now = omega arith in
    sym (take-length l.places)
    ∙ ap (λ (n : ℕ). take n l.places) (l.auto.places ∙ sym past)
    ∙ l.invariant
    ∙ ap (λ (n : ℕ). numbers (g.T.Number.at c.args.bytes.now) g.T.Number.WIDTH c.args.k n) past
