-- A turn enters the sets whose last action is that of its place (`Entries`).
use Rattle.std.proofs.Common.{◌≡◌, ◌+◌, ◌^◌, length, take, refl, ap, arith, pow_mono, pow_pos}
use lib.ListN.{length-set}
use lib.Seq.{length-take-le}
use Rattle.workspace.proofs.Columns.{user-below}
use Rattle.workspace.proofs.Entries.{all_begin, all_turn, all_end}
use Rattle.workspace.proofs.tables.add_all.Goals as goal

pub loop-j-init : goal.loop-j-init
loop-j-init c = all_begin _ _ _ _ _ (omega (arith, c.requires, pow_pos (length c.args.taken.now.actions.now))) c.empty_set.ensures

pub add-requires : goal.add-requires
add-requires c =
    let p = c.requires in
    let at = c.loop-j in
    let a = c.args in
    let taken = a.taken.now in
    let few = taken.few in
    let l = taken.actions.now in
    let n : length (take at.j l) ≡ at.j = length-take-le at.j l (omega arith) in (
      omega arith,
      user-below l at.j taken.known c.loop-j-test.true,
      omega (arith, ap (λ k. 2 ^ (k + 1)) n, pow_mono {i = at.j + 1} {j = length l} (omega arith), p, at.invariant.lengths, length-set a.sets.now 0 c.empty_set.result),
    )

pub loop-j-preserved : goal.loop-j-preserved
loop-j-preserved c = all_turn _ _ _ _ _ c.add.new.sets c.loop-j.j _ refl c.loop-j.invariant c.loop-j-test.true c.add.auto.sets c.add.ensures

pub returns : goal.returns
returns c = all_end _ _ _ _ _ _ (omega arith) c.loop-j.invariant
