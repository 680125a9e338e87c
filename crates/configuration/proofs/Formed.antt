-- What a well-formed configuration says: each of its tests of 15 holds.
use mathlib.Core.Bool.{Bool, So, ◌&&◌}
use Prim.Native.Nat.{ℕ, ◌^◌, ◌≤◌}
use native.Mathlib.Omega.{arith}
use lib.Dec.{leb, ltb, eqb}
use lib.ListN.{length, drop, length-take}
use borrow.Author.Tests.{leb-true}
use Rattle.soda.specs.Lists.{all}
use Rattle.soda.proofs.Bools.{and_split, and-join, so_eq}
use Rattle.policy.specs.Reading.{count_ok}
use Rattle.policy.proofs.Scanning.{counts_most}
use Rattle.configuration.specs.declared.Configuration.{Configuration}
use Rattle.configuration.specs.Configurations.{assignment, is_zero, rows_ok, configuration_ok}
use Rattle.configuration.specs.Laws.{OneEach}

pub count_most : (n : ℕ) → So (count_ok n) → n ≤ 16
count_most n h = leb-true n 16 (and_split (leb 1 n) (leb n 16) h).1

pub count_least : (n : ℕ) → So (count_ok n) → 1 ≤ n
count_least n h = leb-true 1 n (and_split (leb 1 n) (leb n 16) h).0

-- rows that are accepted
pub one_each : OneEach
one_each users roles rows h = so_eq (length rows) users (and_split (eqb (length rows) users) (all (λ r. ltb r (2 ^ roles)) rows) h).0

-- ── a well-formed configuration ──
pub record ConfigurationFormed (c : Configuration) : Type 0 where
  pub counts : So (count_ok c.users && count_ok c.roles)
  pub rows_ok : So (rows_ok c.users c.roles (assignment c))
  pub rows_zero : So (all is_zero (drop c.users c.user_roles))
  pub permissions_zero : So (all is_zero (drop c.roles c.permissions))

module _ (c : Configuration) where
  abbrev counts-test : Bool
  counts-test = count_ok c.users && count_ok c.roles

  abbrev rows-test : Bool
  rows-test = rows_ok c.users c.roles (assignment c)

  abbrev users-test : Bool
  users-test = all is_zero (drop c.users c.user_roles)

  abbrev roles-test : Bool
  roles-test = all is_zero (drop c.roles c.permissions)

  abbrev zeros-test : Bool
  zeros-test = users-test && roles-test

  pub configuration_formed : So (configuration_ok c) → ConfigurationFormed c
  unfolding configuration_ok
  configuration_formed h =
      let (n, r) = and_split counts-test (rows-test && zeros-test) h in
      let (o, z) = and_split rows-test zeros-test r in
      let (u, p) = and_split users-test roles-test z in
      record { counts = n; rows_ok = o; rows_zero = u; permissions_zero = p }

  pub is_configuration_formed : ConfigurationFormed c → So (configuration_ok c)
  unfolding configuration_ok
  is_configuration_formed f =
      and-join counts-test (rows-test && zeros-test) f.counts
      (and-join rows-test zeros-test f.rows_ok (and-join users-test roles-test f.rows_zero f.permissions_zero))

  module _ (f : ConfigurationFormed c) where
    pub users_most : c.users ≤ 16
    users_most = (counts_most c.users c.roles f.counts).0

    pub users_least : 1 ≤ c.users
    users_least = count_least c.users (and_split (count_ok c.users) (count_ok c.roles) f.counts).0

    pub roles_most : c.roles ≤ 16
    roles_most = (counts_most c.users c.roles f.counts).1

    -- there is a row for each user
    pub users_within : c.users ≤ length c.user_roles
    users_within = omega (arith, one_each c.users c.roles (assignment c) f.rows_ok, length-take c.users c.user_roles)
