-- When the fill changes the workspace: what the shape of the words says about them.
use mathlib.Core.Path.{◌≡◌, refl, sym, ◌∙◌, ap, ap₂}
use mathlib.Core.Bool.{Bool, true, false, So, ◌&&◌, cond, and-true, and-false}
use mathlib.Core.List.{List, [], ◌∷◌, ◌++◌}
use mathlib.Core.Option.{Option, some, none}
use Rattle.std.specs.Prelude.{Some, None, is_some, unwrap_or}
use Rattle.std.proofs.Common.{true≢false}
use Prim.Native.Nat.{ℕ, zero, suc, ◌+◌, ◌-◌, ◌≤◌, ◌<◌}
use Rattle.std.specs.Bool.{MatchBool}
use Rattle.std.specs.List.{AllWithin, HoldsAt}
use native.Mathlib.Omega.{arith}
use borrow.Author.Tests.{le-leb, lt-leb, le-ltb}
use lib.Dec.{eqb, leb, ltb}
use lib.ListN.{length, get_or, take, drop, set, length-drop, replicate, length-append}
use lib.Seq.{get_or-append-add, take-length, take-append_seam}
use Rattle.std.proofs.lemmas.List.{take_more_set}
use Rattle.soda.specs.Lists.{all}
use Rattle.soda.specs.Terms.{Term, well_formed}
use Rattle.soda.proofs.Bools.{and-join, lt_so}
use Rattle.soda.proofs.Terms.{size_pos}
use Rattle.policy.specs.Words.{decode, term_of}
use Rattle.policy.specs.Reading.{length_ok}
use Rattle.policy.specs.Accepted.{IsPolicy}
use Rattle.shape.specs.Shapes.{right_sides, term_shape, shape_in, shape_of}
use Rattle.shape.specs.declared.Shape.{Shape}
use Rattle.policy.proofs.Accepted.{policy_in_layout, decode-is-term}
use Rattle.workspace.specs.Workspace.{is_fillable, is_filled, filled, fill_of, PolicyIsFilled}
use Rattle.workspace.specs.Trials.{action_by, can_act, Trials, trials_of}
use Rattle.workspace.specs.Private.{Shaped, LastActs, FillsTrying}
use Rattle.soda.specs.declared.Action.{Action}
use Rattle.workspace.proofs.Subterms.{rights-length}
use Rattle.soda.proofs.Splits.{all_append}

abbrev pub users_ok : List Action → Bool
users_ok l = all (λ a. ltb a.user 16) l

-- words that are one well-formed term of 1 to 31 words
pub record Readable (words : List ℕ) : Type 0 where
  pub term : Term
  pub long : So (length_ok (length words))
  pub is : decode words ≡ some term
  pub formed : So (well_formed term)
  pub shape : shape_of words ≡ Some (term_shape term)

-- words that have a shape
pub readable : (words : List ℕ) (p : Shape) → Some p ≡ shape_of words → Readable words
unfolding shape_of
readable words s e = go (length_ok (length words)) refl (decode words) refl
  where
    go : (b : Bool) → length_ok (length words) ≡ b → (o : Option Term) → decode words ≡ o → Readable words
    go false p o q = absurd (true≢false (ap is_some (e ∙ ap (λ b. shape_in (cond b (decode words) none)) p)))
    go true p none q = absurd (true≢false (ap is_some (e ∙ ap₂ (λ b o. shape_in (cond b o none)) p q)))
    go true p (some φ) q = by (well_formed φ) refl
      where
        by : (w : Bool) → well_formed φ ≡ w → Readable words
        by false w = absurd (true≢false (ap is_some (e ∙ ap₂ (λ b o. shape_in (cond b o none)) p q ∙ ap (λ c. cond c (Some (term_shape φ)) None) w)))
        by true w = record { term = φ; long = p; is = q; formed = w; shape = ap₂ (λ b o. shape_in (cond b o none)) p q ∙ ap (λ c. cond c (Some (term_shape φ)) None) w }

pub shape_is : (p : Shape) (φ : Term) → Some p ≡ Some (term_shape φ) → p ≡ term_shape φ
shape_is p φ e = ap (λ o. unwrap_or o p) e

-- the shape of such words, which has 31 right sides
unfoldable pub is_shaped : {words : List ℕ} {p : Shape} → Readable words → Some p ≡ shape_of words → length p.right ≡ 31 → Shaped p
is_shaped {p = p} r e h = record {
  term = r.term;
  is = shape_is p r.term (e ∙ r.shape);
  formed = r.formed;
  short = let rights = right_sides 0 r.term in
      omega (arith, h, ap (λ q. length q.right) (shape_is p r.term (e ∙ r.shape)), length-append rights (replicate (31 - length rights) 0), rights-length 0 r.term);
}

module _ (words : List ℕ) (actions : List Action) (n : ℕ) (room : List ℕ) where
  refused : is_fillable (decode words) (take n actions) room ≡ false → is_filled words actions n room ≡ false
  unfolding is_filled
  refused e = ap (λ b. length_ok (length words) && (leb n 12 && b)) e ∙ ap (λ b. length_ok (length words) && b) (and-false (leb n 12)) ∙ and-false (length_ok (length words))

  -- each test that leaves the workspace as it was
  pub too_many : 12 < n → is_filled words actions n room ≡ false
  unfolding is_filled
  too_many h = ap (λ b. length_ok (length words) && (b && is_fillable (decode words) (take n actions) room)) (lt-leb n 12 h) ∙ and-false (length_ok (length words))

  pub unknown_user : users_ok (take n actions) ≡ false → is_filled words actions n room ≡ false
  unknown_user e = refused (by (decode words))
    where
      by : (o : Option Term) → is_fillable o (take n actions) room ≡ false
      by none = refl
      by (some φ) = ap (λ b. well_formed φ && (b && leb 8192 (length room))) e ∙ and-false (well_formed φ)

  pub too_short : length room < 8192 → is_filled words actions n room ≡ false
  too_short h = refused (by (decode words))
    where
      by : (o : Option Term) → is_fillable o (take n actions) room ≡ false
      by none = refl
      by (some φ) = ap (λ b. well_formed φ && (users_ok (take n actions) && b)) (lt-leb 8192 (length room) h) ∙ ap (λ b. well_formed φ && b) (and-false (users_ok (take n actions))) ∙ and-false (well_formed φ)

  pub no_policy : None ≡ shape_of words → is_filled words actions n room ≡ false
  unfolding is_filled shape_of
  no_policy e = go (length_ok (length words)) (decode words) e
    where
      go : (b : Bool) (o : Option Term) → None ≡ shape_in (cond b o none) → (b && (leb n 12 && is_fillable o (take n actions) room)) ≡ false
      go false o z = refl
      go true none z = and-false (leb n 12)
      go true (some φ) z = by (well_formed φ) refl
        where
          by : (w : Bool) → well_formed φ ≡ w → (leb n 12 && (well_formed φ && (users_ok (take n actions) && leb 8192 (length room)))) ≡ false
          by false w = ap (λ c. leb n 12 && (c && (users_ok (take n actions) && leb 8192 (length room)))) w ∙ and-false (leb n 12)
          by true w = absurd (true≢false (sym (ap is_some (z ∙ ap (λ c. cond c (Some (term_shape φ)) None) w))))

  pub can_fill : (r : Readable words) → n ≤ 12 → So (users_ok (take n actions)) → 8192 ≤ length room → So (is_filled words actions n room)
  unfolding is_filled
  can_fill r a b c = and-join (length_ok (length words)) (leb n 12 && is_fillable (decode words) (take n actions) room) r.long
      (and-join (leb n 12) (is_fillable (decode words) (take n actions) room) (le-leb n 12 a)
      (ap (λ o. is_fillable o (take n actions) room) r.is
      ∙ and-join (well_formed r.term) (users_ok (take n actions) && leb 8192 (length room)) r.formed
      (and-join (users_ok (take n actions)) (leb 8192 (length room)) b (le-leb 8192 (length room) c))))

  pub is-filled : (r : Readable words) → So (is_filled words actions n room) → filled r.term (take n actions) room ≡ fill_of words actions n room
  unfolding fill_of
  is-filled r e = sym (ap₂ (λ t o. cond t (filled (term_of o) (take n actions) room) room) e r.is)

-- what the fill leaves of all actions, and who can act, in each case
module _ (words : List ℕ) (l : List Action) (room met : List ℕ) where
  pub untouched : is_filled words l (length l) room ≡ false → FillsTrying words l met room 0 room
  unfolding fill_of
  untouched e = record {
    workspace = sym (ap (λ b. cond b (filled (term_of (decode words)) (take (length l) l) room) room) e);
    users = λ last. sym (ap (λ b. cond b (can_act (term_of (decode words)) (take (length l - 1) l) met) 0) e);
  }

  pub fills_trying : (r : ℕ) (after : List ℕ) (k : Readable words) → So (is_filled words l (length l) room) → after ≡ filled k.term l room
      → (LastActs l met → r ≡ can_act k.term (take (length l - 1) l) met) → FillsTrying words l met room r after
  fills_trying r after k e is who = record {
    workspace = is ∙ ap (λ q. filled k.term q room) (sym (take-length l)) ∙ is-filled words l (length l) room k e;
    users = λ last. who last ∙ sym (ap₂ (λ b o. cond b (can_act (term_of o) (take (length l - 1) l) met) 0) e k.is);
  }

-- the words of an accepted policy
readable_policy : (users roles : ℕ) (words : List ℕ) (φ : Term) → IsPolicy users roles words φ → Readable words
unfolding shape_of
readable_policy users roles words φ p =
    let long = (policy_in_layout users roles words φ p).long in
    let is = decode-is-term users roles words φ p in
    record {
      term = φ;
      long = long;
      is = is;
      formed = p.formed;
      shape = ap₂ (λ b o. shape_in (cond b o none)) long is ∙ ap (λ c. cond c (Some (term_shape φ)) None) p.formed;
    }

pub policy-is-filled : PolicyIsFilled
unfolding readable_policy
policy-is-filled users roles words φ actions n room p few known long =
    let r = readable_policy users roles words φ p in
    sym (is-filled words actions n room r (can_fill words actions n room r few known long))

-- ── users tried ──
-- what the test for an empty list says
pub not-empty : (n : ℕ) → eqb n 0 ≡ false → 0 < n
not-empty zero e = absurd (cc)
not-empty (suc n) e = omega arith

-- one action more by a user below 16
more-filled : (words : List ℕ) (l : List Action) (a : Action) (room : List ℕ) → length l < 12 → a.user < 16
    → is_filled words (l ++ (a ∷ [])) (length (l ++ (a ∷ []))) room ≡ is_filled words l (length l) room
unfolding is_filled
more-filled words l a room h u =
    ap₂ (λ b q. length_ok (length words) && (b && is_fillable (decode words) q room)) (le-leb (length (l ++ (a ∷ []))) 12 (omega (arith, length-append l (a ∷ []))) ∙ sym (le-leb (length l) 12 (omega arith)))
    (take-length (l ++ (a ∷ [])))
    ∙ ap (λ b. length_ok (length words) && (leb (length l) 12 && b)) (by (decode words) ∙ ap (λ q. is_fillable (decode words) q room) (sym (take-length l)))
  where
    known : users_ok (l ++ (a ∷ [])) ≡ users_ok l
    known = all_append (λ (x : Action). ltb x.user 16) l (a ∷ []) ∙ ap (λ b. users_ok l && (b && true)) (lt_so a.user 16 u) ∙ and-true (users_ok l)

    by : (o : Option Term) → is_fillable o (l ++ (a ∷ [])) room ≡ is_fillable o l room
    by none = refl
    by (some φ) = ap (λ b. well_formed φ && (b && leb 8192 (length room))) known

-- as many actions and users as are tried
abbrev counts : ℕ → ℕ → Bool
counts n m = ltb n 12 && (leb 1 m && leb m 16)

counted : (n m : ℕ) → n < 12 → 1 ≤ m → m ≤ 16 → So (counts n m)
counted n m h a b = and-join (ltb n 12) (leb 1 m && leb m 16) (lt_so n 12 h) (and-join (leb 1 m) (leb m 16) (le-leb 1 m a) (le-leb m 16 b))

module _ (words : List ℕ) (actions : List Action) (n : ℕ) (met room : List ℕ) where
  tried : Trials
  tried = record { mask = can_act (term_of (decode words)) (take n actions) met; workspace = filled (term_of (decode words)) (take n actions ++ (action_by met (length met - 1) ∷ [])) room }

  abbrev nobody : Trials
  nobody = record { mask = 0; workspace = room }

  untried : counts n (length met) ≡ false → nobody ≡ trials_of words actions n met room
  unfolding trials_of tried
  untried e = sym (ap (λ b. cond (b && is_filled words actions n room) tried nobody) e)

  pub is_full : 11 < n → nobody ≡ trials_of words actions n met room
  is_full h = untried (ap (λ b. b && (leb 1 (length met) && leb (length met) 16)) (le-ltb n 12 (omega arith)))

  pub no_user : length met ≡ 0 → nobody ≡ trials_of words actions n met room
  no_user e = untried (ap (counts n) e ∙ and-false (ltb n 12))

  pub too_many_users : 16 < length met → nobody ≡ trials_of words actions n met room
  too_many_users h = untried (ap (λ b. ltb n 12 && (leb 1 (length met) && b)) (lt-leb (length met) 16 h) ∙ ap (λ b. ltb n 12 && b) (and-false (leb 1 (length met))) ∙ and-false (ltb n 12))

  -- the last user's action behind all others
  pub is-tried : (a : Action) (r : ℕ) (after : List ℕ) → n ≡ length actions → n < 12 → 1 ≤ length met → length met ≤ 16 → a ≡ action_by met (length met - 1)
      → FillsTrying words (actions ++ (a ∷ [])) met room r after → record { mask = r; workspace = after } ≡ trials_of words actions n met room
  unfolding trials_of fill_of tried
  is-tried a r after z h one few is f =
      both (is_filled words actions n room) (f.users (λ _. (omega (arith, long), last)) ∙ ap₂ (λ b l. cond b (can_act (term_of (decode words)) l met) 0) fills front)
      (f.workspace ∙ ap₂ (λ b l. cond b (filled (term_of (decode words)) l room) room) fills whole)
      ∙ sym (ap (λ b. cond (b && is_filled words actions n room) tried nobody) (counted n (length met) h one few))
    where
      long : length (actions ++ (a ∷ [])) ≡ n + 1
      long = length-append actions (a ∷ []) ∙ ap (λ k. k + 1) (sym z)

      place : length (actions ++ (a ∷ [])) - 1 ≡ length actions
      place = omega (arith, long)

      last : get_or (actions ++ (a ∷ [])) (length (actions ++ (a ∷ [])) - 1) (record { user = 0; met = 0 }) ≡ action_by met (length met - 1)
      last =
          let e : length actions ≡ length actions + 0 = omega arith in
          ap (λ m. get_or (actions ++ (a ∷ [])) m (record { user = 0; met = 0 })) (place ∙ e) ∙ get_or-append-add actions (a ∷ []) 0 (record { user = 0; met = 0 }) ∙ is

      all : take n actions ≡ actions
      all = ap (λ m. take m actions) z ∙ take-length actions

      front : take (length (actions ++ (a ∷ [])) - 1) (actions ++ (a ∷ [])) ≡ take n actions
      front = ap (λ m. take m (actions ++ (a ∷ []))) place ∙ take-append_seam actions (a ∷ []) ∙ sym all

      whole : take (length (actions ++ (a ∷ []))) (actions ++ (a ∷ [])) ≡ take n actions ++ (action_by met (length met - 1) ∷ [])
      whole = take-length (actions ++ (a ∷ [])) ∙ ap₂ (λ l x. l ++ (x ∷ [])) (sym all) is

      fills : is_filled words (actions ++ (a ∷ [])) (length (actions ++ (a ∷ []))) room ≡ is_filled words actions n room
      fills = more-filled words actions a room (omega arith) (omega (arith, ap (λ (x : Action). x.user) is)) ∙ ap (λ k. is_filled words actions k room) (sym z)

      both : (b : Bool) → r ≡ cond b tried.mask 0 → after ≡ cond b tried.workspace room → record { mask = r; workspace = after } ≡ cond b tried nobody
      both true p q = ap₂ (λ x y. record { mask = x; workspace = y }) p q
      both false p q = ap₂ (λ x y. record { mask = x; workspace = y }) p q

  -- of twelve places the first are those actions
  pub tried-front : (front places : List Action) (a : Action) → front ≡ actions → length actions < length places
      → take (length actions + 1) (set (front ++ drop (length actions) places) (length actions) a) ≡ actions ++ (a ∷ [])
  tried-front front places a e h =
      let rest = drop (length actions) places in
      ap (λ l. take (length actions + 1) (set (l ++ rest) (length actions) a)) e
      ∙ take_more_set (actions ++ rest) (length actions) a (omega (arith, length-append actions rest, length-drop (length actions) places))
      ∙ ap (λ l. l ++ (a ∷ [])) (take-append_seam actions rest)

-- the test of all users, by what an iterator's `all` answers
pub users-all : (b : Bool) (l : List Action) → MatchBool b (AllWithin (λ (a : Action). ltb a.user 16 ≡ true) l 0 (length l))
    ((x : ℕ) × (x < length l) × HoldsAt (λ (a : Action). ltb a.user 16 ≡ false) l x) → b ≡ users_ok l
users-all true l h = sym (go l (λ k d b. h k d (omega arith) b))
  where
    go : (l : List Action) → ((k : ℕ) (d : Action) → k < length l → ltb (get_or l k d).user 16 ≡ true) → users_ok l ≡ true
    go [] f = refl
    go (a ∷ l) f = and-join (ltb a.user 16) (users_ok l) (f 0 a (omega arith)) (go l (λ k d b. f (suc k) d (omega arith)))
users-all false l (x, b, h) = sym (go l x b (h (record { user = 0; met = 0 })))
  where
    go : (l : List Action) (x : ℕ) → x < length l → ltb (get_or l x (record { user = 0; met = 0 })).user 16 ≡ false → users_ok l ≡ false
    go [] x b e = absurd (omega arith)
    go (a ∷ l) zero b e = ap (λ c. c && users_ok l) e
    go (a ∷ l) (suc x) b e = ap (λ c. ltb a.user 16 && c) (go l x (omega arith) e) ∙ and-false (ltb a.user 16)
