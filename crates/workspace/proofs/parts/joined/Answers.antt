-- The first part is t's first action alone; a turn's two parts are no larger than s.
use Rattle.std.proofs.Common.{ℕ, ◌≡◌, ◌+◌, ◌-◌, ◌≤◌, ◌<◌, List, length, take, drop, refl, ap, ◌∙◌, bit_and, arith}
use lib.Bits.{and_self}
use lib.Seq.{get_or-drop}
use Rattle.std.proofs.lemmas.List.{take_rest}
use Rattle.workspace.specs.declared.entry.Entry.{Entry}
use Rattle.workspace.specs.Private.{Next, entry_at}
use Rattle.workspace.proofs.Submask.{Within, within_le, and-within, lowest}
use Rattle.workspace.proofs.Walk.{begin, next, done, next_le, gathered, gathered_twice}
use Rattle.workspace.proofs.parts.joined.Goals as goal

-- t without its first action
abbrev others : ℕ → ℕ
others t = bit_and t (t - 1)

-- a turn's second part is no larger than s
more_le : (s t a : ℕ) → Next s t → 0 < t → Within a (others t) → a + (t - others t) ≤ s
more_le s t a n h w = let l = lowest t h in omega (arith, next_le n, l.less, within_le a (others t) w)

-- the sets from one on
later : (sets : List Entry) (low k : ℕ) → entry_at (take (length sets - low) (drop low sets)) k ≡ entry_at sets (low + k)
later sets low k = ap (λ l. entry_at l k) (take_rest sets low) ∙ get_or-drop low sets k _

pub loop-a-init : goal.loop-a-init
loop-a-init g c =
    let a = c.args in
    let n = c.requires.next in
    let l = lowest a.t c.requires.some in
    let first : a.t - others a.t ≤ a.s = omega (arith, next_le n) in (
      and_self (others a.t),
      λ has f h none. begin (λ x. f (entry_at a.sets.now x) (entry_at a.sets.now (a.s - x))) a.s a.t (others a.t) n l (has c.gather-found.result)
          (gathered h a.sets.now a.s a.none c.gather-found.result (a.t - others a.t) first _ _ refl refl none c.gather-found.ensures),
    )

pub loop-a-preserved : goal.loop-a-preserved
loop-a-preserved g c =
    let a = c.args in
    let n = c.requires.next in
    let at = c.loop-a in
    let low : ℕ = a.t - others a.t in
    let two = more_le a.s a.t at.a n c.requires.some at.invariant.0 in
    let one : at.a ≤ a.s = omega arith in
    let rest : low + (a.s - low - at.a) ≡ a.s - at.a = omega arith in
    let more : low + at.a ≡ at.a + low = omega arith in
    let less : a.s - low - at.a ≡ a.s - (at.a + low) = omega arith in (
      and-within (at.a - 1) (others a.t),
      λ has f h none. next (λ x. f (entry_at a.sets.now x) (entry_at a.sets.now (a.s - x))) a.s a.t (others a.t) n (lowest a.t c.requires.some) at.a (has at.found) _
          c.loop-a-test.true (at.invariant.1 has f h none)
          (gathered_twice h a.sets.now a.s at.found c.gather-found-in-loop-a.result c.gather-found-in-loop-a-2.result at.a (at.a + low) one two _ _ _ _
          refl (later a.sets.now low (a.s - low - at.a) ∙ ap (entry_at a.sets.now) rest)
          (later a.sets.now low at.a ∙ ap (entry_at a.sets.now) more) (ap (entry_at a.sets.now) less) c.gather-found-in-loop-a.ensures c.gather-found-in-loop-a-2.ensures),
    )

pub returns : goal.returns
returns g c has f h none =
    let a = c.args in
    done _ a.s a.t (others a.t) c.requires.next (lowest a.t c.requires.some) c.loop-a.a _ c.loop-a-test.false (c.loop-a.invariant.1 has f h none)
