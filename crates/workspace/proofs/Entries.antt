-- What stands in the tables: a set entered, and the sets of one action more.
use mathlib.Core.Path.{◌≡◌, refl, sym, ◌∙◌, ap, ap₂, subst}
use mathlib.Core.Bool.{Bool, true, false, ◌&&◌, ◌||◌, and-true, or-false}
use mathlib.Core.List.Perm
use mathlib.Core.List.{List, [], ◌∷◌, ◌++◌, map, Perm}
use mathlib.Core.Logic.{◌⊎◌, inl, inr}
use Prim.Native.Nat.{ℕ, suc, ◌+◌, ◌-◌, ◌/◌, ◌%◌, ◌^◌, ◌≤◌, ◌<◌}
use native.Mathlib.Nat.{eq-or-lt_of_le, pow-suc, lt_of_lt_of_le}
use native.Mathlib.Omega.{arith}
use borrow.Author.Tests.{lt-ltb}
use lib.Bits.{bit_and, bit_or, and_mask}
use lib.Dec.{eqb}
use lib.ListN.{length, get_or, set, take, length-set, length-map, length-append, get_or-eq_default, drop, replicate, length-replicate, get_or-replicate, get_or-append}
use lib.Pow.{pow_mono, pow_pos}
use lib.Seq.{get_or-drop, get_or-set_same, get_or-set_other, get_or-append-add, take-length, take-append_seam, take-take, take_all, take-suc, length-take-le}
use native.Mathlib.Numerals.{add-one}
use Rattle.soda.specs.Bits.{bit, number}
use Rattle.soda.specs.Lists.{all, range}
use Rattle.soda.specs.Terms.{Term, size}
use Rattle.soda.specs.Tables.{acts}
use Rattle.soda.proofs.Bools.{same_test, eq_so, so_eq, lt_or_le}
use Rattle.soda.proofs.Bits.{number_lt, bit-number, bit_of_zero}
use Rattle.soda.proofs.Lists.{range_length, map_below}
use Rattle.soda.proofs.Splits.{any_append, all_append}
use Rattle.shape.specs.Shapes.{right_sides}
use Rattle.rows.specs.Rows.{place, turned_row, satisfied_in, possible_in}
use Rattle.rows.proofs.Digits.{bit-and, bit-or, bit_shr, bit_power, bit_ext, bit_mask, bit-ones}
use Rattle.rows.proofs.Turning.{bit-turned, satisfied-turned, possible-turned}
use Rattle.workspace.specs.Workspace.{select, judged, row_of}
use Rattle.workspace.specs.Private.{Unpacked, entry_at, left_at, Next, AlikePlaces, Twin, Suited, Acting, Noted, Sides, RowIs, RowOf, IsEntry, EmptyEntry, Known, StoredIs, StoredOf, Cleared, Entered, Added, AddedAll, Written, RowsStand}
use Rattle.soda.specs.declared.Action.{Action}
use Rattle.workspace.specs.declared.masks.Masks.{Masks}
use Rattle.workspace.specs.declared.entry.Entry.{Entry}
use Rattle.workspace.specs.declared.entry.Stored.{Stored}
use Rattle.workspace.proofs.Select.{select-next, select-none, select-take}
use Rattle.workspace.proofs.Exchange.{twin_perm, judged-twin, row-twin}
use Rattle.workspace.proofs.Columns.{row-take}

-- ── a row as a word of the workspace ──
row_number : (e : Bool) (φ : Term) (l : List Action) (s row right w : ℕ) → size φ ≤ 31 → RowIs φ (select s l) row right → Unpacked e row w → w < 2 ^ 32 → w ≡ row_of e φ l s
unfolding row_of
row_number e φ l s row right w short r c h = bit_ext 32 w (number digits) h fits (λ i b. c i b ∙ at i b (lt_or_le i (size φ)) ∙ sym (bit-number digits i))
  where
    digits : List Bool
    digits = map (judged e φ (select s l)) (range 0 (size φ))

    long : length digits ≡ size φ
    long = length-map (range 0 (size φ)) (judged e φ (select s l)) ∙ range_length 0 (size φ)

    fits : number digits < 2 ^ 32
    fits = lt_of_lt_of_le (number_lt digits) (pow_mono {j = 32} (omega (arith, long)))

    at : (i : ℕ) → i < 32 → (i < size φ) ⊎ (size φ ≤ i) → bit (place e i) row ≡ get_or digits i false
    at i b (inl k) = r.here e i k ∙ sym (map_below (judged e φ (select s l)) false (size φ) i k)
    at i b (inr k) = r.past e i k b ∙ sym (get_or-eq_default digits false (omega (arith, long)))

-- the columns of a row turned
module _ (φ : Term) (l : List Action) (s row right : ℕ) (h : row < 18446744073709551616) (short : size φ ≤ 31) (r : RowIs φ (select s l) row right) where
  turned-satisfied : satisfied_in (turned_row row) ≡ row_of false φ l s
  turned-satisfied = satisfied-turned row h ∙ row_number false φ l s row right (row % 2 ^ 32) short r
      (λ i b. let z : i ≡ 0 + i = omega arith in ap (bit i) (sym (and_mask row 32)) ∙ bit_mask 32 i row b ∙ ap (λ q. bit q row) z) (omega arith)

  turned-possible : possible_in (turned_row row) ≡ row_of true φ l s
  turned-possible = possible-turned row h ∙ row_number true φ l s row right (row / 2 ^ 32) short r (λ i b. bit_shr i 32 row) (omega arith)

-- ── one set entered ──
-- what is stored of a twin's row
pub stored_twin : (m : Masks) (ops : List ℕ) (sets : List Entry) (met s twin : ℕ) → twin < s → StoredOf m ops sets met s twin (entry_at sets twin).row
stored_twin m ops sets met s twin h φ l u f g n p = let b = g twin h in record {
  sides = λ who acting. record {
    lefts = λ e i c. b.sides.lefts e i c ∙ judged-twin φ (select twin l) (select s l) p e (1 + i);
    possible = λ i c. b.sides.possible i c ∙ judged-twin φ (select twin l) (select s l) p true i;
    rights = λ e i c o. b.sides.rights e i c o ∙ judged-twin φ (select twin l) (select s l) p e (get_or (right_sides 0 φ) i 0);
    acting = acting;
  };
  satisfied = b.satisfied ∙ row-twin false φ l twin s p;
  possible = b.possible ∙ row-twin true φ l twin s p;
}

-- and of a row
stored_is : (φ : Term) (l : List Action) (s row row-right left : ℕ) → row < 18446744073709551616 → size φ ≤ 31 → left ≡ turned_row row → RowIs φ (select s l) row row-right
    → StoredIs φ l s (record { left = left; right = row-right })
stored_is φ l s row row-right left fits short e here = record {
  sides = λ who acting. record {
    lefts = λ e' i b.
        let z : 1 + place e' i ≡ place e' (1 + i) = omega arith in
        ap (bit (place e' i)) e ∙ bit-turned row fits (place e' i) (below_63 e' i (omega arith)) ∙ ap (λ q. bit q row) z ∙ here.here e' (1 + i) b;
    possible = λ i b.
        let z : 1 + (31 + i) ≡ place true i = omega arith in
        ap (bit (31 + i)) e ∙ bit-turned row fits (31 + i) (omega arith) ∙ ap (λ q. bit q row) z ∙ here.here true i b;
    rights = here.sided;
    acting = acting;
  };
  satisfied = ap satisfied_in e ∙ turned-satisfied φ l s row row-right fits short here;
  possible = ap possible_in e ∙ turned-possible φ l s row row-right fits short here;
}
  where
    below_63 : (e : Bool) (i : ℕ) → i < 31 → place e i < 63
    below_63 true i b = omega arith
    below_63 false i b = omega arith

-- from its parts
pub stored_row : (m : Masks) (ops : List ℕ) (sets : List Entry) (met s twin row row-right left : ℕ) → row < 18446744073709551616 → left ≡ turned_row row
    → RowOf m ops sets met s row row-right → StoredOf m ops sets met s twin (record { left = left; right = row-right })
stored_row m ops sets met s twin row row-right left fits e r φ l u f g n p =
    stored_is φ l s row row-right left fits u.short e (r φ l u f (λ x b. (g x b).sides) n)

module _ (m : Masks) (ops : List ℕ) (s who met twin : ℕ) (sets : List Entry) (row : Stored)
    (twin-before : twin ≤ s) (n : s < length sets) (r : StoredOf m ops sets met s twin row) where
  abbrev entry : Entry
  entry = record { row = row; met = met; users = who; twin = twin }

  pub entered : Entered m ops s who met twin sets (set sets s entry)
  entered φ l u f a k p g x b = at x (eq-or-lt_of_le (le x b))
    where
      le : (x : ℕ) → x < s + 1 → x ≤ s
      le x b = omega arith

      is : StoredIs φ l s row
      is = r φ l u f g k p

      here : IsEntry φ l s entry
      here = record { sides = is.sides who a; noted = k; twin = p; earlier = twin-before; satisfied = is.satisfied; possible = is.possible }

      at : (x : ℕ) → (x ≡ s) ⊎ (x < s) → IsEntry φ l x (entry_at (set sets s entry) x)
      at x (inl q) = subst (λ y. IsEntry φ l y (entry_at (set sets s entry) y)) (sym q) (subst (IsEntry φ l s) (sym (get_or-set_same sets s entry _ n)) here)
      at x (inr q) = subst (IsEntry φ l x) (sym (get_or-set_other sets s x entry _ (λ z. omega arith))) (g x q)

-- the empty set's
pub empty-entry : (m : Masks) (ops : List ℕ) (sets : List Entry) (row row-right left : ℕ) → row < 18446744073709551616 → left ≡ turned_row row
    → RowOf m ops sets 4294967295 0 row row-right
    → EmptyEntry m ops (record { row = record { left = left; right = row-right }; met = 4294967295; users = 0; twin = 0 })
empty-entry m ops sets row row-right left fits e r φ l u = record {
  sides = is.sides 0 (λ v. bit_of_zero v ∙ sym (ap (λ k. acts (λ (a : Action). a.user) v k) (select-none l)));
  noted = noted;
  twin = Perm.refl (select 0 l);
  earlier = omega arith;
  satisfied = is.satisfied;
  possible = is.possible;
}
  where
    noted : Noted (select 0 l) 4294967295
    noted i h = bit-ones 32 i ∙ lt-ltb i 32 h ∙ sym (ap (all (λ (a : Action). bit i a.met)) (select-none l))

    is : StoredIs φ l 0 (record { left = left; right = row-right })
    is = stored_is φ l 0 row row-right left fits u.short e (r φ l u (pow_pos (length l)) (λ x b. absurd (omega arith)) noted)

-- ── the rows written ──
pub written_none : (sets : List Entry) (d : List ℕ) → Written 0 sets d d
written_none sets d = record { satisfied = λ x h. absurd (omega arith); possible = λ x h. absurd (omega arith); kept = record { low = λ k a b. refl; high = λ k a. refl } }

pub written-more : (n : ℕ) (sets : List Entry) (d a : List ℕ) (low high : ℕ) → n < 4096 → 8192 ≤ length a → low ≡ satisfied_in (left_at sets n) → high ≡ possible_in (left_at sets n)
    → Written n sets d a → Written (n + 1) sets d (set (set a n low) (4096 + n) high)
written-more n sets d a low high h long is-low is-high w = record {
  satisfied = λ x b. first x (eq-or-lt_of_le (le x b));
  possible = λ x b. second x (eq-or-lt_of_le (le x b));
  kept = record {
    low = λ k b c. other k (λ q. omega arith) (λ q. omega arith) ∙ w.kept.low k (omega arith) c;
    high = λ k b. other k (λ q. omega arith) (λ q. omega arith) ∙ w.kept.high k (omega arith);
  };
}
  where
    le : (x : ℕ) → x < n + 1 → x ≤ n
    le x b = omega arith

    other : (k : ℕ) → (k ≡ 4096 + n → ⊥) → (k ≡ n → ⊥) → get_or (set (set a n low) (4096 + n) high) k 0 ≡ get_or a k 0
    other k p q = get_or-set_other (set a n low) (4096 + n) k high 0 p ∙ get_or-set_other a n k low 0 q

    first : (x : ℕ) → (x ≡ n) ⊎ (x < n) → get_or (set (set a n low) (4096 + n) high) x 0 ≡ satisfied_in (left_at sets x)
    first x (inl q) = subst (λ y. get_or (set (set a n low) (4096 + n) high) y 0 ≡ satisfied_in (left_at sets y)) (sym q)
        (get_or-set_other (set a n low) (4096 + n) n high 0 (λ z. omega arith) ∙ get_or-set_same a n low 0 (omega arith) ∙ is-low)
    first x (inr q) = other x (λ z. omega arith) (λ z. omega arith) ∙ w.satisfied x q

    second : (x : ℕ) → (x ≡ n) ⊎ (x < n) → get_or (set (set a n low) (4096 + n) high) (4096 + x) 0 ≡ possible_in (left_at sets x)
    second x (inl q) = subst (λ y. get_or (set (set a n low) (4096 + n) high) (4096 + y) 0 ≡ possible_in (left_at sets y)) (sym q)
        (get_or-set_same (set a n low) (4096 + n) high 0 (omega (arith, length-set a n low)) ∙ is-high)
    second x (inr q) = other (4096 + x) (λ z. omega arith) (λ z. omega arith) ∙ w.possible x q

pub written_all : {sets : List Entry} {d a : List ℕ} (n m : ℕ) → n ≤ m → m ≤ n → Written n sets d a → Written m sets d a
written_all {sets} {d} {a} n m h k w = let q : n ≡ m = omega arith in subst (λ x. Written x sets d a) q w

-- ── one action more ──
eqb_swap : (m n : ℕ) → eqb m n ≡ eqb n m
eqb_swap m n = same_test (eqb m n) (eqb n m) (λ e. eq_so n m (sym (so_eq m n e))) (λ e. eq_so m n (sym (so_eq n m e)))

-- ── lists that begin with the same j actions ──
module _ (l k : List Action) (j : ℕ) (alike : take j l ≡ take j k) where
  select_alike : (x : ℕ) → x < 2 ^ j → select x l ≡ select x k
  select_alike x h = sym (select-take j l x h) ∙ ap (select x) alike ∙ select-take j k x h

  row_alike : (e : Bool) (φ : Term) (x : ℕ) → x < 2 ^ j → row_of e φ l x ≡ row_of e φ k x
  row_alike e φ x h = row-take e φ l j x h ∙ ap (λ m. row_of e φ m x) alike ∙ sym (row-take e φ k j x h)

  -- have the same sets in the table
  pub known_alike : (φ : Term) (sets : List Entry) → Known φ l sets (2 ^ j) → Known φ k sets (2 ^ j)
  known_alike φ sets g x h =
      let b = g x h in
      let r = entry_at sets x in
      record {
        sides = subst (λ m. Sides φ m r.row.left r.row.right r.users) (select_alike x h) b.sides;
        noted = subst (λ m. Noted m r.met) (select_alike x h) b.noted;
        twin = subst (λ m. Perm m (select x k)) (select_alike r.twin (omega (arith, b.earlier))) (subst (Perm (select r.twin l)) (select_alike x h) b.twin);
        earlier = b.earlier;
        satisfied = b.satisfied ∙ row_alike false φ x h;
        possible = b.possible ∙ row_alike true φ x h;
      }

-- where the loop over the sets t of the actions l is, for one action more
pub record Adding (m : Masks) (ops : List ℕ) (l : List Action) (a : Action) (alike : ℕ) (before after : List Entry) (user top t : ℕ) : Type 0 where
  pub is_user : user ≡ 2 ^ a.user
  pub is_top : top ≡ 2 ^ length l
  pub places : AlikePlaces (l ++ (a ∷ [])) (length l) alike
  pub lengths : length after ≡ length before
  pub added : (φ : Term) → Suited φ m ops → Known φ l before (2 ^ length l) → Known φ (l ++ (a ∷ [])) after (top + t)

module _ (m : Masks) (ops : List ℕ) (l : List Action) (a : Action) (alike : ℕ) (T : List Entry) (user top : ℕ) where
  abbrev j : ℕ
  j = length l

  abbrev more : List Action
  more = l ++ (a ∷ [])

  longer : length more ≡ j + 1
  longer = length-append l (a ∷ [])

  here : get_or more j (record { user = 0; met = 0 }) ≡ a
  here = let z : j ≡ j + 0 = omega arith in ap (λ n. get_or more n (record { user = 0; met = 0 })) z ∙ get_or-append-add l (a ∷ []) 0 (record { user = 0; met = 0 })

  pub add_begin : user ≡ 2 ^ a.user → top ≡ 2 ^ j → AlikePlaces more j alike → Adding m ops l a alike T T user top 0
  add_begin p q w = let z : 2 ^ j ≡ top + 0 = omega arith in record {
    is_user = p;
    is_top = q;
    places = w;
    lengths = refl;
    added = λ φ u k. subst (Known φ more T) z (known_alike l more j (take-length l ∙ sym (take-append_seam l (a ∷ []))) φ T k);
  }

  module _ (t : ℕ) (T' : List Entry) (g : Adding m ops l a alike T T' user top t) (h : t < top) where
    pub add_next : Next (top + t) t
    add_next = record { last = j; is = ap (λ n. n + t) g.is_top; below = subst (λ n. t < n) g.is_top h }

    pub add_room : top + t + 1 ≤ 2 ^ (j + 1)
    add_room = let s : j + 1 ≡ suc j = omega arith in omega (arith, g.is_top, pow-suc 2 j, ap (λ n. 2 ^ n) s)

    pub add_below : j < 12 → top + t < 4096
    add_below b = omega (arith, add_room, pow_mono {i = j + 1} {j = 12} (omega arith))

    pub add_turn : (T'' : List Entry) (twin : ℕ) → length T'' ≡ length T' → Twin alike top t (entry_at T' t).twin twin
        → Entered m ops (top + t) (bit_or (entry_at T' t).users user) (bit_and (entry_at T' t).met a.met) twin T' T'' → Adding m ops l a alike T T'' user top (t + 1)
    add_turn T'' twin s w e = let z : top + t + 1 ≡ top + (t + 1) = omega arith in record {
      is_user = g.is_user;
      is_top = g.is_top;
      places = g.places;
      lengths = s ∙ g.lengths;
      added = λ φ u k. subst (Known φ more T'') z (known φ u k);
    }
      where
        r : Entry
        r = entry_at T' t

        b : j < length more
        b = omega (arith, longer)

        known : (φ : Term) → Suited φ m ops → Known φ l T (2 ^ j) → Known φ more T'' (top + t + 1)
        known φ u k = e φ more u fits acting noted alike_set before
          where
            before : Known φ more T' (top + t)
            before = g.added φ u k

            fits : top + t < 2 ^ length more
            fits = omega (arith, g.is_top, pow-suc 2 j, pow_mono {i = suc j} {j = length more} b)

            chosen : select (top + t) more ≡ select t more ++ (a ∷ [])
            chosen = ap (λ n. select (n + t) more) g.is_top ∙ select-next more j t (record { user = 0; met = 0 }) b (subst (λ n. t < n) g.is_top h) ∙ ap (λ x. select t more ++ (x ∷ [])) here

            alike_set : Perm (select twin more) (select (top + t) more)
            alike_set = subst (λ n. Perm (select twin more) (select (n + t) more)) (sym g.is_top)
                (twin_perm more j t (entry_at T' t).twin alike twin b (subst (λ n. t < n) g.is_top h) g.places (before t (omega arith)).twin
                (subst (λ n. Twin alike n t (entry_at T' t).twin twin) g.is_top w))

            acting : Acting (select (top + t) more) (bit_or (entry_at T' t).users user)
            acting v =
                bit-or v (entry_at T' t).users user
                ∙ ap₂ ◌||◌ ((before t (omega arith)).sides.acting v) (ap (bit v) g.is_user ∙ bit_power v a.user ∙ eqb_swap v a.user ∙ sym (or-false (eqb a.user v)))
                ∙ sym (ap (acts (λ x. x.user) v) chosen ∙ any_append (λ (x : Action). eqb x.user v) (select t more) (a ∷ []))

            noted : Noted (select (top + t) more) (bit_and (entry_at T' t).met a.met)
            noted i c =
                bit-and i (entry_at T' t).met a.met
                ∙ ap₂ ◌&&◌ ((before t (omega arith)).noted i c) (sym (and-true (bit i a.met)))
                ∙ sym (ap (all (λ x. bit i x.met)) chosen ∙ all_append (λ (x : Action). bit i x.met) (select t more) (a ∷ []))

  pub add_end : (t : ℕ) (T' : List Entry) → Adding m ops l a alike T T' user top t → t ≡ top → Added m ops l a T T'
  add_end t T' g q φ u k =
      let s : j + 1 ≡ suc j = omega arith in
      let e : top + t ≡ 2 ^ (j + 1) = omega (arith, g.is_top, pow-suc 2 j, ap (λ n. 2 ^ n) s) in
      subst (Known φ more T') e (g.added φ u k)

-- ── all actions ──
-- where the loop over the actions is
pub record AddingAll (m : Masks) (ops : List ℕ) (l : List Action) (n : ℕ) (sets : List Entry) (j : ℕ) : Type 0 where
  pub lengths : length sets ≡ n
  pub added : AddedAll m ops l (2 ^ j) sets

module _ (m : Masks) (ops : List ℕ) (l : List Action) where
  pub all_begin : (T : List Entry) (r : Entry) → 0 < length T → EmptyEntry m ops r → AddingAll m ops l (length (set T 0 r)) (set T 0 r) 0
  all_begin T r h e = record {
    lengths = refl;
    added = λ φ u x b. let z : x ≡ 0 = omega arith in
        subst (λ y. IsEntry φ l y (entry_at (set T 0 r) y)) (sym z) (subst (IsEntry φ l 0) (sym (get_or-set_same T 0 r _ h)) (e φ l u));
  }

  pub all_turn : (n : ℕ) (T T' : List Entry) (j : ℕ) (a : Action) → a ≡ get_or l j (record { user = 0; met = 0 }) → AddingAll m ops l n T j → j < length l → length T' ≡ length T
      → Added m ops (take j l) a T T' → AddingAll m ops l n T' (j + 1)
  all_turn n T T' j a is f b s w = record {
    lengths = s ∙ f.lengths;
    added = λ φ u.
        let old : Known φ (take j l) T (2 ^ length (take j l)) =
        subst (λ n. Known φ (take j l) T (2 ^ n)) (sym long) (known_alike l (take j l) j (sym (take-take j j l (omega arith))) φ T (f.added φ u)) in
        let new : Known φ (take j l ++ (a ∷ [])) T' (2 ^ (j + 1)) = subst (λ n. Known φ (take j l ++ (a ∷ [])) T' (2 ^ (n + 1))) long (w φ u old) in
        known_alike (take j l ++ (a ∷ [])) l (j + 1) (take_all (j + 1) (take j l ++ (a ∷ [])) (omega (arith, long, length-append (take j l) (a ∷ []))) ∙ sym whole) φ T' new;
  }
    where
      long : length (take j l) ≡ j
      long = length-take-le j l (omega arith)

      whole : take (j + 1) l ≡ take j l ++ (a ∷ [])
      whole = ap (λ n. take n l) (add-one j) ∙ take-suc l j (record { user = 0; met = 0 }) b ∙ ap (λ x. take j l ++ (x ∷ [])) (sym is)

  pub all_end : (n : ℕ) (T : List Entry) (j : ℕ) → j ≡ length l → AddingAll m ops l n T j → AddedAll m ops l (2 ^ length l) T
  all_end n T j e f = subst (λ k. AddedAll m ops l (2 ^ k) T) e f.added

-- all sets entered and their rows written
pub rows_stand : {m : Masks} {ops : List ℕ} {l : List Action} {sets : List Entry} {before after : List ℕ} (n k : ℕ) → k ≡ n → AddedAll m ops l n sets → Written k sets before after
    → RowsStand m ops l n before after
rows_stand {sets = sets} {before = before} {after = after} n k e a v = let w = subst (λ x. Written x sets before after) e v in record {
  satisfied = λ φ u x b. w.satisfied x b ∙ (a φ u x b).satisfied;
  possible = λ φ u x b. w.possible x b ∙ (a φ u x b).possible;
  kept = w.kept;
}

-- ── zeros ──
pub cleared : (n : ℕ) (d a : List ℕ) → n ≤ length d → a ≡ replicate (length (take n d)) 0 → Cleared n d (a ++ drop n d)
cleared n d a h e = record {
  zeros = λ k b. get_or-append a (drop n d) 0 k (omega (arith, long)) ∙ ap (λ l. get_or l k 0) is ∙ get_or-replicate n k 0 0 b;
  stay = λ k b.
      let z : k ≡ length a + (k - n) = omega (arith, long) in
      let y : n + (k - n) ≡ k = omega arith in
      ap (λ i. get_or (a ++ drop n d) i 0) z ∙ get_or-append-add a (drop n d) (k - n) 0 ∙ get_or-drop n d (k - n) 0 ∙ ap (λ i. get_or d i 0) y;
}
  where
    is : a ≡ replicate n 0
    is = e ∙ ap (λ k. replicate k 0) (length-take-le n d h)

    long : length a ≡ n
    long = ap length is ∙ length-replicate n 0
