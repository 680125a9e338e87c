-- What the tests of a case say of its parts, as equations and bounds.
use mathlib.Core.Path.{◌≡◌}
use mathlib.Core.Bool.{Bool, true, false, So, ◌&&◌, cond}
use mathlib.Core.List.{List}
use Prim.Native.Nat.{ℕ, ◌%◌, ◌≤◌}
use native.Mathlib.Omega.{arith}
use borrow.Author.Tests.{leb-true}
use lib.Dec.{leb, eqb}
use lib.ListN.{length}
use Rattle.soda.proofs.Bools.{and_split, so_eq}
use Rattle.casefile.specs.Cases.{offset, part_length, end_of, has_five, pairs_ok, is_joined, is_last, parts_ok, lengths_ok, case_ok}

-- the parts that every case has
pub record Laid (b : List ℕ) : Type 0 where
  pub long : 12 ≤ length b
  pub short : length b ≤ 4096
  pub grants : offset b 1 ≡ end_of b 0
  pub events : offset b 2 ≡ end_of b 1
  pub inside : end_of b 2 ≤ length b
  pub policy_whole : part_length b 0 % 4 ≡ 0
  pub events_whole : part_length b 2 % 4 ≡ 0
  pub events_few : part_length b 2 ≤ 1024
  pub grants_some : 2 ≤ part_length b 1
  pub grants_even : part_length b 1 % 2 ≡ 0

-- the parts behind the events, of five pairs
pub record Behind (b : List ℕ) : Type 0 where
  pub permissions : offset b 3 ≡ end_of b 2
  pub workflow : offset b 4 ≡ end_of b 3
  pub ends : length b ≡ end_of b 4

module _ (b : List ℕ) where
  pub room_for_five : So (pairs_ok b) → has_five b ≡ true → 20 ≤ length b
  room_for_five h f = leb-true 20 (length b) (rw f at h)

  abbrev fifth : Bool
  fifth = is_joined b 2 && (is_joined b 3 && is_last b 4)

  behind : So fifth → Behind b
  behind h =
      let p = and_split (is_joined b 2) (is_joined b 3 && is_last b 4) h in
      let q = and_split (is_joined b 3) (is_last b 4) p.1 in
      record {
        permissions = so_eq (offset b 3) (end_of b 2) p.0;
        workflow = so_eq (offset b 4) (end_of b 3) q.0;
        ends = so_eq (length b) (end_of b 4) q.1;
      }

  events_inside : (five : Bool) → So (cond five fifth (is_last b 2)) → end_of b 2 ≤ length b
  events_inside true h = let l = behind h in omega arith
  events_inside false h = let e = so_eq (length b) (end_of b 2) h in omega arith

  -- the tests of a case, apart
  record Tests : Type 0 where
    long : So (leb 12 (length b))
    short : So (leb (length b) 4096)
    pairs : So (pairs_ok b)
    grants : So (is_joined b 0)
    events : So (is_joined b 1)
    rest : So (cond (has_five b) fifth (is_last b 2))
    lengths : So (lengths_ok b)

  tests : So (case_ok b) → Tests
  unfolding case_ok
  tests h =
      let a = and_split (leb 12 (length b)) (leb (length b) 4096 && (pairs_ok b && (parts_ok b && lengths_ok b))) h in
      let c = and_split (leb (length b) 4096) (pairs_ok b && (parts_ok b && lengths_ok b)) a.1 in
      let d = and_split (pairs_ok b) (parts_ok b && lengths_ok b) c.1 in
      let e = and_split (parts_ok b) (lengths_ok b) d.1 in
      let p = and_split (is_joined b 0) (is_joined b 1 && cond (has_five b) fifth (is_last b 2)) e.0 in
      let q = and_split (is_joined b 1) (cond (has_five b) fifth (is_last b 2)) p.1 in
      record { long = a.0; short = c.0; pairs = d.0; grants = p.0; events = q.0; rest = q.1; lengths = e.1 }

  pub laid : So (case_ok b) → Laid b
  laid h =
      let t = tests h in
      let s = and_split (eqb (part_length b 0 % 4) 0) (eqb (part_length b 2 % 4) 0 && (leb (part_length b 2) 1024 && (leb 2 (part_length b 1) && eqb (part_length b 1 % 2) 0))) t.lengths in
      let e = and_split (eqb (part_length b 2 % 4) 0) (leb (part_length b 2) 1024 && (leb 2 (part_length b 1) && eqb (part_length b 1 % 2) 0)) s.1 in
      let u = and_split (leb (part_length b 2) 1024) (leb 2 (part_length b 1) && eqb (part_length b 1 % 2) 0) e.1 in
      let v = and_split (leb 2 (part_length b 1)) (eqb (part_length b 1 % 2) 0) u.1 in
      record {
        long = leb-true 12 (length b) t.long;
        short = leb-true (length b) 4096 t.short;
        grants = so_eq (offset b 1) (end_of b 0) t.grants;
        events = so_eq (offset b 2) (end_of b 1) t.events;
        inside = events_inside (has_five b) t.rest;
        policy_whole = so_eq (part_length b 0 % 4) 0 s.0;
        events_whole = so_eq (part_length b 2 % 4) 0 e.0;
        events_few = leb-true (part_length b 2) 1024 u.0;
        grants_some = leb-true 2 (part_length b 1) v.0;
        grants_even = so_eq (part_length b 1 % 2) 0 v.1;
      }

  pub laid_behind : So (case_ok b) → has_five b ≡ true → (20 ≤ length b) × Behind b
  laid_behind h f = let t = tests h in (room_for_five t.pairs f, behind (rw f at t.rest))
