-- More words than a policy has leave the blank instance.
use Rattle.std.proofs.Common.{ℕ, List, ◌++◌, length, drop, ap, ◌∙◌}
use lib.ListN.{replicate}
use borrow.Author.Tests.{le-leb, lt-leb}
use Rattle.workflow.specs.Workflows.{no_workflow}
use Rattle.configuration.proofs.Laying.{padded_over}
use Rattle.instance.proofs.Instance.under.Goals as goal

pub returns-then-words-gt31 : goal.returns-then-words-gt31
unfolding no_workflow
returns-then-words-gt31 c = rw (lt-leb (length c.args.words.now) 31 c.if-words-gt31.true)

pub returns : goal.returns
unfolding no_workflow
returns c =
    let laid = ap (λ (l : List ℕ). l ++ drop (length c.args.words.now) (replicate 31 0)) c.copy_from_slice.ensures.after ∙ padded_over 31 c.args.words.now in
    rw (le-leb (length c.args.words.now) 31 c.if-words-gt31.false, laid, c.from.ensures)
