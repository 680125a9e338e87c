-- The loop keeps what the actions so far and those of the users that are left will give.
use Rattle.std.proofs.Common.{◌≡◌, ◌+◌, ◌≤◌, ◌++◌, map, length, take, drop}
use Rattle.soda.specs.Roles.{roles}
use Rattle.instance.specs.Instances.{noted}
use Rattle.multiset.specs.MultisetTest.{total, listed}
use Rattle.multiset.proofs.actions_of.Given as goal

abbrev pub invariant-loop-user : goal.invariant-loop-user
invariant-loop-user l =
    (l.user ≤ length l.rows) × (length l.actions ≡ 12) × (l.taken + total (drop l.user l.counts) ≡ total l.counts)
    × (take l.taken l.actions ++ map (λ u. noted l.words u (roles l.rows u)) (listed l.user (drop l.user l.counts)) ≡ map (λ u. noted l.words u (roles l.rows u)) (listed 0 l.counts))
