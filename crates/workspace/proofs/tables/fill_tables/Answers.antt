-- Of the sets that were entered, the rows are written; then users are tried.
use Rattle.std.proofs.Common.{◌≡◌, ◌*◌, ◌%◌, ◌≤◌, ◌^◌, length, arith, pow_mono}
use Rattle.soda.proofs.Bits.{one_shl}
use Rattle.workspace.proofs.tables.fill_tables.Goals as goal

pub write_rows-requires : goal.write_rows-requires
write_rows-requires c =
    let p = c.requires in
    let n = length c.args.taken.now.actions.now in
    let count : 1 * 2 ^ n % 2 ^ 64 ≡ 2 ^ n = one_shl 64 n (omega arith) in
    let room : 2 ^ n ≤ 4096 = pow_mono {j = 12} c.args.taken.now.few in
    (omega (arith, room, count), omega (arith, count, p.0, c.add_all.auto.sets), p.1)
