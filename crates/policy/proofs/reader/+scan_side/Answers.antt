-- By the first word's sides, a law of `Scanning` says what the answer is.
use Rattle.std.proofs.Common.{◌+◌, ◌∙◌, arith}
use Rattle.soda.proofs.Lists.{from-length}
use Rattle.policy.proofs.Scanning.{Word, known_from, word-sided, scan_one, scan_missing_second, scan_two}
use Rattle.policy.proofs.reader.+scan_side.Goals as goal
use Rattle.policy.proofs.reader.+scan_side.Goals.{scan-In_ok-a}

-- the first word, with its kind and its sides
first-word : (t : _) (c : scan-In_ok-a t) → Word c.args.words.now c.kind_of-k.result c.sides_of-n.result
first-word t c = word-sided c.args.words.now _ _ c.requires.0 c.requires.2 c.kind_of-k.ensures c.sides_of-n.ensures

pub scan-returns-then-n-eq1-clause-first : goal.scan-returns-then-n-eq1-clause-first
scan-returns-then-n-eq1-clause-first t c =
    let w = first-word t (goal.at.scan-returns-then-n-eq1-clause-first t c).In_ok-a in
    cc (c.over_side.ensures, scan_one _ w c.in_ok-a.a c.in_ok-a.ensures.first c.if-n-eq1.true (omega (arith, c.in_ok-a.ensures.within, from-length 1 c.args.words.now)))

pub scan-side-requires-2 : goal.scan-side-requires-2
scan-side-requires-2 t c =
    let ws = c.args.words.now in
    let n = 1 + c.in_ok-a.a.words in
    let l = from-length n ws in
    (omega (arith, c.decreases, c.requires.0), (omega (arith, c.requires.1), known_from n ws c.requires.2))

pub scan-returns-in_err-b-clause-first : goal.scan-returns-in_err-b-clause-first
scan-returns-in_err-b-clause-first t c =
    let w = first-word t (goal.at.scan-returns-in_err-b-clause-first t c).In_ok-a in
    c.from_residual-in_err-b.ensures
    ∙ scan_missing_second _ w c.in_ok-a.a c.in_ok-a.ensures.first c.if-n-eq0.false c.if-n-eq1.false c.in_err-b.ensures.first

pub scan-returns-clause-first : goal.scan-returns-clause-first
scan-returns-clause-first t c =
    let ws = c.args.words.now in
    let w = first-word t (goal.at.scan-returns-clause-first t c).In_ok-a in
    cc (
      c.beside_sides.ensures,
      scan_two _ w c.in_ok-a.a c.in_ok-a.ensures.first c.if-n-eq0.false c.if-n-eq1.false c.in_ok-b.b c.in_ok-b.ensures.first
          (omega (arith, c.in_ok-a.ensures.within, c.in_ok-b.ensures.within, from-length 1 ws, from-length (1 + c.in_ok-a.a.words) ws)),
    )
