-- The loop keeps that the rows of the first roles are laid out and the rest is zero.
use Rattle.std.proofs.Common.{◌*◌}
use Rattle.workflow.specs.Permissions.{low_first}
use Rattle.workflow.proofs.Arrays.{Laid}
use Rattle.workflow.proofs.permissions.permission_rows.Given as goal

abbrev pub invariant-loop-role : goal.invariant-loop-role
invariant-loop-role l = Laid 0 16 (λ r. low_first 8 l.bytes (r * 8)) l.count l.role l.rows
