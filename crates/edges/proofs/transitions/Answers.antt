-- The array is longer than what is taken of it.
use Rattle.std.proofs.Common.{◌≤◌, length, sym, arith}
use Rattle.std.proofs.lemmas.List.{length-take-le}
use Rattle.edges.proofs.transitions.Goals as goal

pub slice_bounds-fewer-end : goal.slice_bounds-fewer-end
slice_bounds-fewer-end c =
    let long : 196 ≤ length c.all_actions-bytes.result = omega arith in
    sym (length-take-le 196 c.all_actions-bytes.result long)
