-- Each return is the list's first test that applies.
use Rattle.std.proofs.Common.{ℕ, List, ◌++◌, length, drop, sym, ap, ◌∙◌}
use lib.ListN.{replicate}
use Rattle.configuration.specs.Configurations.{given_configuration}
use Rattle.configuration.proofs.Laying.{padded_over}
use Rattle.configuration.proofs.Configuration.open.Goals as goal

pub returns-then-not-counts_ok : goal.returns-then-not-counts_ok
unfolding given_configuration
returns-then-not-counts_ok c =
    let counts = simp (c.from-users.ensures, c.from-roles.ensures) at (sym c.counts_ok.ensures ∙ c.if-not-counts_ok.true) in
    rw counts

pub returns-then-not-rows_ok : goal.returns-then-not-rows_ok
unfolding given_configuration
returns-then-not-rows_ok c =
    let counts = simp (c.from-users.ensures, c.from-roles.ensures) at (sym c.counts_ok.ensures ∙ c.if-not-counts_ok.false) in
    let rows = simp (c.from-users.ensures, c.from-roles.ensures) at (sym c.rows_ok.ensures ∙ c.if-not-rows_ok.true) in
    rw (counts, rows)

pub returns : goal.returns
unfolding given_configuration
returns c =
    let counts = simp (c.from-users.ensures, c.from-roles.ensures) at (sym c.counts_ok.ensures ∙ c.if-not-counts_ok.false) in
    let rows = simp (c.from-users.ensures, c.from-roles.ensures) at (sym c.rows_ok.ensures ∙ c.if-not-rows_ok.false) in
    let laid = ap (λ (l : List ℕ). l ++ drop (length c.args.rows.now) (replicate 16 0)) c.copy_from_slice.ensures.after ∙ padded_over 16 c.args.rows.now in
    rw (counts, rows) (rw (c.from-users.ensures, c.from-roles.ensures, laid))
