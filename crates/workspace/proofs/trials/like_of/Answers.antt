-- The user found meets the same, and neither has acted.
use Rattle.std.proofs.Common.{sym, ◌∙◌, arith}
use Rattle.workspace.specs.Private.{itself, another}
use Rattle.workspace.proofs.trials.like_of.Goals as goal

pub returns-then-has_user : goal.returns-then-has_user
returns-then-has_user c = itself

pub returns-then-not-has_user : goal.returns-then-not-has_user
returns-then-not-has_user c = another (omega arith) c.loop-v-test.true c.if-met-v.true c.loop-v.invariant (sym c.has_user-then-met-v.ensures ∙ c.if-not-has_user.true)

pub returns : goal.returns
returns c = itself
