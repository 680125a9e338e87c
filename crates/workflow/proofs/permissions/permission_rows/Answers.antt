-- The next row is laid out; at the end all are, with zeros behind them.
use Rattle.std.proofs.Common.{ℕ, ◌≡◌, ◌-◌, ◌*◌, ◌++◌, true, Some, replicate, sym, ap, ◌∙◌, arith, rules, tests}
use Rattle.workflow.specs.Permissions.{low_first, permissions_ok, permission_rows}
use Rattle.workflow.proofs.Arrays.{listed, listed-length, laid_next, laid-all}
use Rattle.workflow.proofs.permissions.permission_rows.Goals as goal

pub loop-role-preserved : goal.loop-role-preserved
loop-role-preserved c = laid_next c.loop-role.invariant _ (omega arith) (omega arith) c.row_at.ensures

pub returns : goal.returns
unfolding permission_rows
returns c =
    let b = c.args.bytes.now in
    let n = c.from-count.result in
    let in_form : permissions_ok c.args.roles b ≡ true = search (rules, tests) in
    let row = λ (r : ℕ). low_first 8 b (r * 8) in
    let rows : c.loop-role.rows ≡ permission_rows n b =
    laid-all c.loop-role.invariant (omega arith)
    ∙ ap (λ (k : ℕ). listed row n ++ replicate (16 - k) 0) (sym (listed-length row n)) in
    rw in_form (ap Some (rows ∙ ap (λ (k : ℕ). permission_rows k b) c.from-count.ensures))
