-- The users from u on are tried, and the sets of the actions before the last still stand in the table (`Trying`).
use Rattle.std.proofs.Common.{◌≡◌, ◌+◌, ◌-◌, ◌*◌, ◌%◌, ◌≤◌, ◌<◌, ◌^◌, ℕ, get_or, take, length, sym, ap, subst, ◌∙◌, arith}
use lib.Pow.{pow_mono}
use lib.Seq.{length-take-le}
use Rattle.soda.proofs.Bits.{one_shl}
use Rattle.workspace.specs.Private.{users_at, AddedAll}
use Rattle.workspace.proofs.Fillable.{not-empty}
use Rattle.workspace.proofs.Trying.{last_apart, try_begin_at, try_turn, try_end, try_nobody, try_no_action}
use Rattle.soda.proofs.Bools.{so_eq}
use Rattle.workspace.proofs.trials.try_each.Goals.{then-is_empty-via-then-is_empty, then-is_empty-via-else-is_empty+then-is_empty-2}
use Rattle.workspace.proofs.trials.try_each.Goals as goal

-- so many sets have the actions before the last one
count : (n : ℕ) → n ≤ 12 → 1 * 2 ^ (n - 1) % 2 ^ 64 ≡ 2 ^ (n - 1)
count n h = one_shl 64 (n - 1) (omega arith)

few : (n : ℕ) → n ≤ 12 → 2 ^ (n - 1) ≤ 2048
few n h = pow_mono {j = 11} (omega arith)

pub returns-then-is_empty : goal.returns-then-is_empty
returns-then-is_empty c = elim c.then-is_empty.branch [
  | then-is_empty-via-then-is_empty w ↦ try_no_action _ _ _ _ (so_eq _ 0 (sym c.is_empty.ensures ∙ w.if-is_empty.true))
  | then-is_empty-via-else-is_empty+then-is_empty-2 w ↦ try_nobody _ _ _ _ (so_eq _ 0 (sym w.is_empty-else-is_empty.ensures ∙ w.if-is_empty-2.true))
]

pub loop-u-init : goal.loop-u-init
loop-u-init c =
    let a = c.args in
    let p = c.requires in
    let taken = a.taken.now in
    let most = taken.few in
    let l = taken.actions.now in
    let met = taken.met.now in
    let acts : 0 < length l = not-empty _ (sym c.is_empty.ensures ∙ c.if-is_empty.false) in
    let n : length l - 1 + 1 ≡ length l = omega arith in
    let users : 0 < length met = not-empty _ (sym c.is_empty-else-is_empty.ensures ∙ c.if-is_empty-2.false) in
    try_begin_at _ _ (take (length l - 1) l) (get_or l (length l - 1) (record { user = 0; met = 0 })) met _ a.sets.now (length l - 1) (length met - 1) c.marked-tried.result c.is_possible.result
    (length-take-le (length l - 1) l (omega arith)) (omega arith) (ap (λ k. users_at a.sets.now (k - 1)) (count (length l) most))
    (subst (λ k. AddedAll a.judge.now.masks a.judge.now.operators.now k (2 ^ (length l - 1 + 1)) a.sets.now) (sym (last_apart l acts)) (subst (λ k. AddedAll a.judge.now.masks a.judge.now.operators.now l (2 ^ k) a.sets.now) (sym n) p.1))
    c.is_possible.ensures (omega (arith, c.marked-tried.type_inv)) c.marked-tried.ensures

pub loop-u-preserved : goal.loop-u-preserved
loop-u-preserved c =
    let at = c.loop-u in
    let j = c.judge_user-possible in
    try_turn _ _ _ _ _ _ _ at.sets j.new.sets at.u at.tried c.marked-tried-in-loop-u.result j.result
    c.loop-u-test.true at.invariant j.auto.sets j.ensures (omega (arith, c.marked-tried-in-loop-u.type_inv)) c.marked-tried-in-loop-u.ensures

pub returns : goal.returns
returns c φ s last =
    let at = c.loop-u in
    try_end _ _ _ _ _ _ _ at.sets at.u at.tried c.loop-u-test.false c.args.taken.now.users at.invariant φ s (last (not-empty _ (sym c.is_empty-else-is_empty.ensures ∙ c.if-is_empty-2.false))).1
