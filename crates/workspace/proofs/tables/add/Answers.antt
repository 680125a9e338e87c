-- A turn enters one set more (`Entries`); the twin found is not behind it.
use Rattle.std.proofs.Common.{ℕ, ◌≡◌, ◌+◌, ◌≤◌, ◌<◌, length, sym, subst, arith}
use Rattle.soda.proofs.Bits.{one_shl}
use Rattle.rows.specs.Twins.{twin_of}
use Rattle.workspace.specs.Private.{Twin}
use Rattle.workspace.proofs.Exchange.{twin-found}
use Rattle.workspace.proofs.Entries.{add_begin, add_next, add_room, add_below, add_turn, add_end}
use Rattle.workspace.proofs.tables.add.Goals as goal

found : (alike top t twin r : ℕ) → r ≡ twin_of alike top t twin → top ≤ 4096 → t < top → alike < top → (r ≤ top + t) × Twin alike top t twin r
found alike top t twin r e few h k = subst (λ x. (x ≤ top + t) × Twin alike top t twin x) (sym e) (twin-found alike top t twin few h k)

pub enter-requires : goal.enter-requires
enter-requires c =
    let at = c.loop-t in
    let is_top = at.invariant.is_top in
    let places = at.invariant.places.below in
    let below = add_below _ _ _ _ _ _ _ _ _ _ at.invariant c.loop-t-test.true c.requires.0 in
    let room = add_room _ _ _ _ _ _ _ _ _ _ at.invariant c.loop-t-test.true in (
      below,
      (found _ _ at.t _ _ c.twin_of-twin.ensures (omega (arith, below)) c.loop-t-test.true (omega (arith, places, is_top))).0,
      add_next _ _ _ _ _ _ _ _ _ _ at.invariant c.loop-t-test.true,
      omega (arith, room, c.requires.2, at.invariant.lengths),
    )

pub loop-t-init : goal.loop-t-init
loop-t-init c =
    let p = c.requires in
    add_begin _ _ _ _ _ _ _ _ (one_shl 16 c.args.action.user p.1) (one_shl 64 (length c.args.before.now) (omega arith)) c.alike_of-alike.ensures

pub loop-t-preserved : goal.loop-t-preserved
loop-t-preserved c =
    let at = c.loop-t in
    let is_top = at.invariant.is_top in
    let places = at.invariant.places.below in
    let below = add_below _ _ _ _ _ _ _ _ _ _ at.invariant c.loop-t-test.true c.requires.0 in
    add_turn _ _ _ _ _ _ _ _ _ _ at.invariant c.loop-t-test.true c.enter.new.sets _ c.enter.auto.sets
    (found _ _ at.t _ _ c.twin_of-twin.ensures (omega (arith, below)) c.loop-t-test.true (omega (arith, places, is_top))).1 c.enter.ensures

pub returns : goal.returns
returns c = add_end _ _ _ _ _ _ _ _ _ _ c.loop-t.invariant (omega arith)
