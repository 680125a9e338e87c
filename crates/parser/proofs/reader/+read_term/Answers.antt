-- The laws of `Sides` say what each answer is.
use Rattle.std.proofs.Common.{◌≡◌, ℕ, false, List, length, nat_eq}
use Rattle.std.specs.Prelude.{Some, None}
use Rattle.soda.specs.Lists.{from}
use Rattle.text.specs.Grammar.{leaf_in, head_in}
use Rattle.text.specs.declared.Span.{Span}
use Rattle.parser.specs.Private.{LeafRead, HeadRead, Parsed}
use Rattle.parser.specs.declared.tokens.Head.{Head}
use Rattle.parser.specs.declared.tokens.Token.{Token}
use Rattle.parser.proofs.Sides.{First, parsed_nowhere, parsed_leaf, parsed_headless, parsed_no_first, parsed_over, parsed_no_operator, parsed_no_second, parsed_unclosed, parsed_pair}
use Rattle.parser.proofs.reader.+read_term.Goals as goal

-- the first side is read
first : (t out : List ℕ) (head : Token Head) (a : Span) (words : List ℕ) → false ≡ nat_eq (length out) 0 → LeafRead (leaf_in t) t None
    → HeadRead (head_in t) t (Some head) → Parsed (from head.bytes t) (from 1 out) (Some a) words → First t out head a words
first t out head a words empty leaf head_read read = record { empty = empty; leaf = leaf; head_read = head_read; read = read }

pub read_sides-returns-then-is_empty-clause-value : goal.read_sides-returns-then-is_empty-clause-value
read_sides-returns-then-is_empty-clause-value t c = parsed_nowhere c.args.text.now c.args.out.now c.args.out.now c.if-is_empty.ensures

pub read_sides-returns-in-Some-clause-value : goal.read_sides-returns-in-Some-clause-value
read_sides-returns-in-Some-clause-value t c = parsed_leaf c.args.text.now c.args.out.now c.in-Some.leaf c.if-is_empty.ensures c.in-Some.ensures

pub read_sides-returns-in_err-head-clause-value : goal.read_sides-returns-in_err-head-clause-value
read_sides-returns-in_err-head-clause-value t c =
    rw c.from_residual.ensures (parsed_headless c.args.text.now c.args.out.now c.in_default.ensures c.in_err-head.ensures)

pub read_sides-returns-in_err-a-in-Over-clause-value : goal.read_sides-returns-in_err-a-in-Over-clause-value
read_sides-returns-in_err-a-in-Over-clause-value t c =
    rw c.from_residual-in_err-a-in-Over.ensures
    (parsed_no_first c.args.text.now c.args.out.now c.in_ok-head.head c.read_term.new.out _ c.if-is_empty.ensures c.in_default.ensures c.in_ok-head.ensures
    c.in_err-a-in-Over.ensures.value)

pub read_sides-returns-in_ok-a-in-Over-clause-value : goal.read_sides-returns-in_ok-a-in-Over-clause-value
read_sides-returns-in_ok-a-in-Over-clause-value t c =
    let f = first c.args.text.now c.args.out.now c.in_ok-head.head c.in_ok-a-in-Over.a c.read_term.new.out c.if-is_empty.ensures c.in_default.ensures c.in_ok-head.ensures c.in_ok-a-in-Over.ensures.value in
    parsed_over f c.in-Over.is

pub read_sides-returns-in_err-a-in-Pair-clause-value : goal.read_sides-returns-in_err-a-in-Pair-clause-value
read_sides-returns-in_err-a-in-Pair-clause-value t c =
    rw c.from_residual-in_err-a-in-Pair.ensures
    (parsed_no_first c.args.text.now c.args.out.now c.in_ok-head.head c.read_term-in-Pair.new.out _ c.if-is_empty.ensures c.in_default.ensures c.in_ok-head.ensures
    c.in_err-a-in-Pair.ensures.value)

pub read_sides-returns-in_err-operator-in-Pair-clause-value : goal.read_sides-returns-in_err-operator-in-Pair-clause-value
read_sides-returns-in_err-operator-in-Pair-clause-value t c =
    let f = first c.args.text.now c.args.out.now c.in_ok-head.head c.in_ok-a-in-Pair.a c.read_term-in-Pair.new.out c.if-is_empty.ensures c.in_default.ensures c.in_ok-head.ensures c.in_ok-a-in-Pair.ensures.value in
    rw c.from_residual-in_err-operator-in-Pair.ensures (parsed_no_operator f c.in-Pair.is c.in_err-operator-in-Pair.ensures.value)

pub read_sides-returns-in_err-b-in-Pair-clause-value : goal.read_sides-returns-in_err-b-in-Pair-clause-value
read_sides-returns-in_err-b-in-Pair-clause-value t c =
    let f = first c.args.text.now c.args.out.now c.in_ok-head.head c.in_ok-a-in-Pair.a c.read_term-in-Pair.new.out c.if-is_empty.ensures c.in_default.ensures c.in_ok-head.ensures c.in_ok-a-in-Pair.ensures.value in
    rw c.from_residual-in_err-b-in-Pair.ensures
    (parsed_no_second f c.in-Pair.is c.in_ok-operator-in-Pair.operator c.in_ok-operator-in-Pair.ensures.value _ c.in_err-b-in-Pair.ensures.value)

pub read_sides-returns-then-not-starts_with-clause-value : goal.read_sides-returns-then-not-starts_with-clause-value
read_sides-returns-then-not-starts_with-clause-value t c =
    let f = first c.args.text.now c.args.out.now c.in_ok-head.head c.in_ok-a-in-Pair.a c.read_term-in-Pair.new.out c.if-is_empty.ensures c.in_default.ensures c.in_ok-head.ensures c.in_ok-a-in-Pair.ensures.value in
    parsed_unclosed f c.in-Pair.is c.in_ok-operator-in-Pair.operator c.in_ok-operator-in-Pair.ensures.value c.in_ok-b-in-Pair.b c.read_term-in-Pair-2.new.out c.in_ok-b-in-Pair.ensures.value
    c.starts_with.ensures.value c.if-not-starts_with.true

pub read_sides-returns-else-not-starts_with-clause-value : goal.read_sides-returns-else-not-starts_with-clause-value
read_sides-returns-else-not-starts_with-clause-value t c =
    let f = first c.args.text.now c.args.out.now c.in_ok-head.head c.in_ok-a-in-Pair.a c.read_term-in-Pair.new.out c.if-is_empty.ensures c.in_default.ensures c.in_ok-head.ensures c.in_ok-a-in-Pair.ensures.value in
    parsed_pair f c.in-Pair.is c.in_ok-operator-in-Pair.operator c.in_ok-operator-in-Pair.ensures.value c.in_ok-b-in-Pair.b c.read_term-in-Pair-2.new.out c.in_ok-b-in-Pair.ensures.value
    c.starts_with.ensures.value c.if-not-starts_with.false (c.starts_with.ensures.bound c.if-not-starts_with.false)
