-- By the first word's sides, a law of `Spelling` says what the calls are handed and that what they put is the term's text; `Begun` says
-- how much of it is still to be put.
use Rattle.std.proofs.Common.{◌≡◌, ℕ, ◌+◌, List, [], ◌∷◌, length, ap, ◌∙◌, arith}
use lib.ListN.{set}
use Rattle.soda.proofs.Lists.{from-length}
use Rattle.policy.specs.Words.{sides}
use Rattle.printer.specs.Private.{head_text, operator_text, Spelt}
use Rattle.text.specs.Puts.{Put}
use Rattle.text.proofs.Putting.{Begun, byte_room, byte_put, all-put}
use Rattle.printer.proofs.Spelling.{spelt-some, no_side, bounded, leaf_room, leaf_put, head-room, to_first, alone, operator-room, to_second, twice}
use Rattle.printer.proofs.writer.+put_term.Goals as goal

-- `)` is put, and nothing is left
closed : {whole out new : List ℕ} {k b x y : ℕ} → (x ≡ y) × Begun whole out k new (b ∷ []) → (x ≡ y) × Put whole out (k + 1) (set new k b)
closed q = (q.0, all-put (byte_put q.1))

pub bounds-words-0 : goal.bounds-words-0
bounds-words-0 t c = spelt-some c.requires

-- ── no side ──
pub put_leaf-requires : goal.put_leaf-requires
put_leaf-requires t c =
    let e = c.sides_of-sides.ensures ∙ ap sides c.kind_of.ensures in
    leaf_room c.args.words.now c.args.out.now c.requires c.of-kind.ensures c.operand_of.ensures (no_side c.requires e c.if-sides-eq0.true)

pub returns-then-sides-eq0 : goal.returns-then-sides-eq0
returns-then-sides-eq0 t c =
    let e = c.sides_of-sides.ensures ∙ ap sides c.kind_of.ensures in
    let put = λ (s : Spelt c.args.words.now (length c.args.out.now)). leaf_put c.args.words.now c.args.out.now s c.of-kind.ensures c.operand_of.ensures (no_side s e c.if-sides-eq0.true) c.put_leaf.ensures in
    record { value = put; bounds = bounded c.requires (put c.requires) }

-- ── the first side ──
pub put_head-start-requires : goal.put_head-start-requires
put_head-start-requires t c =
    let e = c.sides_of-sides.ensures ∙ ap sides c.kind_of.ensures in
    let h = ap head_text c.of-kind.ensures in
    head-room c.args.words.now c.args.out.now c.requires e c.if-sides-eq0.false h

pub put_term-a-requires : goal.put_term-a-requires
put_term-a-requires t c =
    let e = c.sides_of-sides.ensures ∙ ap sides c.kind_of.ensures in
    let h = ap head_text c.of-kind.ensures in
    (omega (arith, c.decreases, from-length 1 c.args.words.now, spelt-some c.requires), to_first c.args.words.now c.args.out.now c.requires e c.if-sides-eq0.false h c.put_head-start.ensures)

pub returns-then-sides-eq1 : goal.returns-then-sides-eq1
returns-then-sides-eq1 t c =
    let e = c.sides_of-sides.ensures ∙ ap sides c.kind_of.ensures in
    let h = ap head_text c.of-kind.ensures in
    let put = λ (s : Spelt c.args.words.now (length c.args.out.now)). alone c.args.words.now c.args.out.now s e c.if-sides-eq0.false h c.put_head-start.ensures c.put_term-a.ensures.value c.if-sides-eq1.true in
    record { value = put; bounds = bounded c.requires (put c.requires) }

-- ── the second side ──
pub put_operator-requires : goal.put_operator-requires
put_operator-requires t c =
    let e = c.sides_of-sides.ensures ∙ ap sides c.kind_of.ensures in
    let h = ap head_text c.of-kind.ensures in
    let o = ap operator_text c.of-kind.ensures in
    operator-room c.args.words.now c.args.out.now c.requires e c.if-sides-eq0.false h c.put_head-start.ensures c.put_term-a.ensures.value c.if-sides-eq1.false o

pub put_term-b-requires : goal.put_term-b-requires
put_term-b-requires t c =
    let e = c.sides_of-sides.ensures ∙ ap sides c.kind_of.ensures in
    let h = ap head_text c.of-kind.ensures in
    let o = ap operator_text c.of-kind.ensures in
    let a = c.put_term-a.ensures in (
      omega (arith, c.decreases, from-length (1 + c.put_term-a.result.words) c.args.words.now, spelt-some c.requires, a.bounds.1),
      to_second c.args.words.now c.args.out.now c.requires e c.if-sides-eq0.false h c.put_head-start.ensures a.value c.if-sides-eq1.false o c.put_operator.ensures,
    )

pub bounds-out-close : goal.bounds-out-close
bounds-out-close t c =
    let e = c.sides_of-sides.ensures ∙ ap sides c.kind_of.ensures in
    let h = ap head_text c.of-kind.ensures in
    let o = ap operator_text c.of-kind.ensures in
    let (_, g) = twice c.args.words.now c.args.out.now c.requires e c.if-sides-eq0.false h c.put_head-start.ensures c.put_term-a.ensures.value c.if-sides-eq1.false o c.put_operator.ensures
    c.put_term-b.ensures.value in
    omega (arith, byte_room g)

pub returns : goal.returns
returns t c =
    let e = c.sides_of-sides.ensures ∙ ap sides c.kind_of.ensures in
    let h = ap head_text c.of-kind.ensures in
    let o = ap operator_text c.of-kind.ensures in
    let put = λ (s : Spelt c.args.words.now (length c.args.out.now)). closed
    (twice c.args.words.now c.args.out.now s e c.if-sides-eq0.false h c.put_head-start.ensures c.put_term-a.ensures.value c.if-sides-eq1.false o c.put_operator.ensures
    c.put_term-b.ensures.value) in
    record { value = put; bounds = bounded c.requires (put c.requires) }
