-- What well-formed parts of a monitor say: none of the refusals of a policy applies, and each test of 15 holds.
use mathlib.Core.Path.{◌≡◌, refl}
use mathlib.Core.Bool.{Bool, So, ◌&&◌}
use mathlib.Core.List.{List}
use Prim.Native.Nat.{ℕ, ◌≤◌}
use native.Mathlib.Numerals.{add-one}
use lib.Dec.{leb, eqb}
use lib.ListN.{length, drop}
use lib.Seq.{take-suc-set}
use borrow.Author.Tests.{leb-true, le-leb, not-false}
use Rattle.soda.specs.Lists.{all}
use Rattle.soda.proofs.Bools.{and_split, and-join, so_eq, eq_so}
use Rattle.policy.specs.Refusals.{code, Clear}
use Rattle.policy.specs.Words.{decode}
use Rattle.policy.specs.Reading.{count_ok, length_ok, is_term, is_formed, refusals, units_of}
use Rattle.policy.proofs.Refusals.{clear}
use Rattle.policy.proofs.Scanning.{length-range}
use Rattle.configuration.specs.declared.Configuration.{Configuration}
use Rattle.instance.specs.declared.Instance.{Instance}
use Rattle.configuration.specs.Configurations.{is_zero}
use Rattle.instance.specs.Instances.{policy_of, taken_of, is_idle, action_ok, is_readable, is_taken_ok, is_tidy, is_placed, is_lettered, instance_ok}
use Rattle.instance.specs.Laws.{TakenMore}

-- ── a policy that is read ──
pub record PolicyOk (users roles : ℕ) (words : List ℕ) : Type 0 where
  pub counts : So (count_ok users && count_ok roles)
  pub long : So (length_ok (length words))
  pub term : So (is_term (decode words))
  pub formed : So (is_formed (decode words))

pub policy_ok : (users roles : ℕ) (words : List ℕ) → Clear (refusals users roles words) → PolicyOk users roles words
policy_ok users roles words k = record {
  counts = not-false _ k.0;
  long = not-false _ k.1.0;
  term = not-false _ k.1.1.1.0;
  formed = not-false _ k.1.1.1.1.0;
}

pub words-few : {users roles : ℕ} (words : List ℕ) → PolicyOk users roles words → length words ≤ 31
words-few words r = (length-range (length words) r.long).1

-- ── a well-formed instance over it ──
pub record InstanceFormed (c : Configuration) (i : Instance) : Type 0 where
  pub words_most : i.words ≤ 31
  pub read : code (refusals c.users c.roles (policy_of i)) ≡ 0
  pub taken_most : i.taken ≤ 12
  pub actions_ok : So (all (action_ok c.users (units_of (decode (policy_of i)))) (taken_of i))
  pub words_zero : So (all is_zero (drop i.words i.policy))
  pub places_idle : So (all is_idle (drop i.taken i.actions))
  pub placed : So (is_placed c i)
  pub lettered : So (is_lettered i)

module _ (c : Configuration) (i : Instance) where
  abbrev read_test : Bool
  read_test = eqb (code (refusals c.users c.roles (policy_of i))) 0

  abbrev actions_test : Bool
  actions_test = all (action_ok c.users (units_of (decode (policy_of i)))) (taken_of i)

  abbrev words-test : Bool
  words-test = all is_zero (drop i.words i.policy)

  abbrev places-test : Bool
  places-test = all is_idle (drop i.taken i.actions)

  pub instance-formed : So (instance_ok c i) → InstanceFormed c i
  unfolding instance_ok
  instance-formed h =
      let (p, r) = and_split (is_readable c i) (is_taken_ok c i && (is_tidy i && (is_placed c i && is_lettered i))) h in
      let (w, e) = and_split (leb i.words 31) read_test p in
      let (t, q) = and_split (is_taken_ok c i) (is_tidy i && (is_placed c i && is_lettered i)) r in
      let (n, a) = and_split (leb i.taken 12) actions_test t in
      let (d, k) = and_split (is_tidy i) (is_placed c i && is_lettered i) q in
      let (x, z) = and_split words-test places-test d in
      let (s, l) = and_split (is_placed c i) (is_lettered i) k in
      record {
        words_most = leb-true i.words 31 w;
        read = so_eq (code (refusals c.users c.roles (policy_of i))) 0 e;
        taken_most = leb-true i.taken 12 n;
        actions_ok = a;
        words_zero = x;
        places_idle = z;
        placed = s;
        lettered = l;
      }

  pub is_instance_formed : InstanceFormed c i → So (instance_ok c i)
  unfolding instance_ok
  is_instance_formed f =
      and-join (is_readable c i) (is_taken_ok c i && (is_tidy i && (is_placed c i && is_lettered i)))
      (and-join (leb i.words 31) read_test (le-leb i.words 31 f.words_most) (eq_so (code (refusals c.users c.roles (policy_of i))) 0 f.read))
      (and-join (is_taken_ok c i) (is_tidy i && (is_placed c i && is_lettered i))
      (and-join (leb i.taken 12) actions_test (le-leb i.taken 12 f.taken_most) f.actions_ok)
      (and-join (is_tidy i) (is_placed c i && is_lettered i) (and-join words-test places-test f.words_zero f.places_idle)
      (and-join (is_placed c i) (is_lettered i) f.placed f.lettered)))

  formed_clear : InstanceFormed c i → Clear (refusals c.users c.roles (policy_of i))
  formed_clear f = clear (refusals c.users c.roles (policy_of i)) refl f.read

  pub formed_read : InstanceFormed c i → PolicyOk c.users c.roles (policy_of i)
  formed_read f = policy_ok c.users c.roles (policy_of i) (formed_clear f)

-- one more action
pub taken_more : TakenMore
taken_more i a s h = rw (add-one, take-suc-set i.actions i.taken a)
