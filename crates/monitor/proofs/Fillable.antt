-- The workspace can be filled for well-formed parts, with one more action by a declared user too.
use mathlib.Core.Path.{refl}
use mathlib.Core.Bool.{Bool, So, ◌&&◌}
use mathlib.Core.List.{List, [], ◌∷◌, ◌++◌}
use mathlib.Core.Option.{Option, some, none}
use Prim.Native.Nat.{ℕ, ◌≤◌, ◌<◌}
use native.Mathlib.Omega.{arith}
use lib.Bits.{bit_and}
use lib.Dec.{leb, ltb, eqb}
use lib.ListN.{length, length-append, take}
use lib.Seq.{take-length, length-take-le}
use borrow.Author.Tests.{le-leb}
use Rattle.soda.specs.Lists.{all}
use Rattle.soda.specs.Terms.{Term, well_formed}
use Rattle.soda.specs.declared.Action.{Action}
use Rattle.soda.proofs.Bools.{never, and_split, and-join, so_lt, lt_so}
use Rattle.soda.proofs.Splits.{split_append, all_parts}
use Rattle.policy.specs.Words.{decode}
use Rattle.policy.specs.Reading.{length_ok, is_term, is_formed, units_of}
use Rattle.workspace.specs.Workspace.{is_fillable, is_filled}
use Rattle.configuration.specs.declared.Configuration.{Configuration}
use Rattle.instance.specs.declared.Instance.{Instance}
use Rattle.instance.specs.Instances.{policy_of, taken_of, action_ok}
use Rattle.configuration.proofs.Formed.{ConfigurationFormed, users_most}
use Rattle.instance.proofs.Formed.{InstanceFormed, formed_read}

-- a user that the workspace has a bit for
abbrev pub known : Action → Bool
known a = ltb a.user 16

fillable_term : (t : Option Term) (l : List Action) (room : List ℕ) → So (is_term t) → So (is_formed t) → So (all known l) → 8192 ≤ length room
    → So (is_fillable t l room)
fillable_term none l room h f a n = never h
fillable_term (some φ) l room h f a n =
    and-join (well_formed φ) (all known l && leb 8192 (length room)) f (and-join (all known l) (leb 8192 (length room)) a (le-leb 8192 (length room) n))

-- by its parts
pub fillable : (words : List ℕ) (l : List Action) (n : ℕ) (room : List ℕ) → So (length_ok (length words)) → So (is_term (decode words)) → So (is_formed (decode words))
    → n ≤ 12 → So (all known (take n l)) → 8192 ≤ length room → So (is_filled words l n room)
unfolding is_filled
fillable words l n room p t f k a e =
    and-join (length_ok (length words)) (leb n 12 && is_fillable (decode words) (take n l) room) p
    (and-join (leb n 12) (is_fillable (decode words) (take n l) room) (le-leb n 12 k) (fillable_term (decode words) (take n l) room t f a e))

-- an accepted action's user is one
all_known_lem : (users units : ℕ) (l : List Action) → users ≤ 16 → So (all (action_ok users units) l) → So (all known l)
all_known_lem users units [] m h = refl
all_known_lem users units (a ∷ l) m h =
    let (p, q) = and_split (action_ok users units a) (all (action_ok users units) l) h in
    let u = (and_split (ltb a.user users) (eqb (bit_and a.met units) a.met) p).0 in
    and-join (known a) (all known l) (lt_so a.user 16 (omega (arith, so_lt a.user users u))) (all_known_lem users units l m q)

module _ (c : Configuration) (i : Instance) (room : List ℕ) (k : ConfigurationFormed c) (f : InstanceFormed c i) (long : 8192 ≤ length room) where
  users-known : So (all known (taken_of i))
  users-known = all_known_lem c.users (units_of (decode (policy_of i))) (taken_of i) (users_most c k) f.actions_ok

  pub fillable_formed : So (is_filled (policy_of i) i.actions i.taken room)
  fillable_formed =
      fillable (policy_of i) i.actions i.taken room (formed_read c i f).long (formed_read c i f).term (formed_read c i f).formed f.taken_most users-known long

  pub fillable_more : (a : Action) → i.taken < 12 → i.taken < length i.actions → a.user < c.users
      → So (is_filled (policy_of i) (taken_of i ++ (a ∷ [])) (length (taken_of i ++ (a ∷ []))) room)
  fillable_more a free within u =
      let l : List Action = taken_of i ++ (a ∷ []) in
      let all_known : So (all known l) = all_parts known (split_append (taken_of i) (a ∷ [])) users-known (and-join (known a) _ (lt_so a.user 16 (omega (arith, users_most c k))) refl) in
      let count = length-take-le i.taken i.actions (omega arith) in
      fillable (policy_of i) l (length l) room (formed_read c i f).long (formed_read c i f).term (formed_read c i f).formed
      (omega (arith, count, length-append (taken_of i) (a ∷ []))) (rw (take-length l) all_known) long
