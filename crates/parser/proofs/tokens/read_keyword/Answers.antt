-- `starts_with` decides what is behind the bytes.
use Rattle.std.proofs.Common.{refl}
use Rattle.parser.proofs.Readers.{begun, not-begun}
use Rattle.parser.proofs.tokens.read_keyword.Goals as goal

pub returns-then-not-starts_with : goal.returns-then-not-starts_with
returns-then-not-starts_with g c = rw (not-begun c.args.bytes.now c.args.text.now c.starts_with.ensures.value c.if-not-starts_with.true) tt

pub returns : goal.returns
returns g c =
    rw (begun c.args.bytes.now c.args.text.now c.starts_with.ensures.value c.if-not-starts_with.false)
    (record { some_bytes = c.requires; within = c.starts_with.ensures.bound c.if-not-starts_with.false; left = refl }, refl)
