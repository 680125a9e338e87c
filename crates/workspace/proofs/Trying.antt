-- Users tried in place of the last action: what the table says of each, of users alike, and of all.
use mathlib.Core.Path.{◌≡◌, refl, sym, ◌∙◌, ap, ap₂, subst}
use mathlib.Core.Bool.{Bool, true, false, ◌&&◌, ◌||◌, or-false}
use mathlib.Core.List.{List, [], ◌∷◌, ◌++◌, map}
use mathlib.Core.Logic.{◌⊎◌, inl, inr}
use Prim.Native.Nat.{ℕ, ◌+◌, ◌-◌, ◌^◌, ◌≤◌, ◌<◌}
use native.Mathlib.Nat.{lt_of_lt_of_le}
use native.Mathlib.Omega.{arith}
use lib.Dec.{eqb}
use lib.ListN.{length, get_or, take, length-map, length-append, get_or-eq_default}
use lib.Pow.{pow_mono, pow_pos}
use Rattle.std.proofs.lemmas.List.{take_more}
use lib.Seq.{take-length, take-append_seam, length-take-le}
use Rattle.soda.specs.Bits.{bit, number}
use Rattle.soda.specs.Lists.{range}
use Rattle.soda.specs.Terms.{Term}
use Rattle.soda.specs.Tables.{possible}
use Rattle.soda.specs.declared.Action.{Action}
use Rattle.soda.proofs.Bools.{Order, less, same, more, order, eq_so, not_so, so_eq, lt_or_le}
use Rattle.soda.proofs.Bits.{bit-number, number_lt, bit_of_zero}
use Rattle.soda.proofs.Lists.{range_length, map_below}
use Rattle.soda.proofs.Renaming.{new-user-is_renamed}
use Rattle.rows.specs.Rows.{possible_in}
use Rattle.rows.proofs.Digits.{bit_ext}
use Rattle.workspace.specs.Workspace.{select, row_of}
use Rattle.workspace.specs.Trials.{action_by, can_act}
use Rattle.workspace.specs.Private.{left_at, users_at, Suited, Acting, Known, Added, AddedAll, Like, itself, another, Marked, Judges, Tries, TriesEach}
use Rattle.workspace.specs.declared.entry.Entry.{Entry}
use Rattle.workspace.specs.declared.masks.Masks.{Masks}
use Rattle.workspace.proofs.Select.{select-take}
use Rattle.workspace.proofs.Columns.{row-take}
use Rattle.workspace.proofs.Entries.{known_alike}
use Rattle.workspace.proofs.Verdicts.{row_whole, select-all}

-- ── one trial ──
module _ (φ : Term) (l : List Action) (sets : List Entry) where
  -- the last set below 2^n has all of the first n actions
  pub whole_possible : (n : ℕ) → n ≤ length l → Known φ l sets (2 ^ n) → bit 0 (possible_in (left_at sets (2 ^ n - 1))) ≡ possible φ 0 (take n l)
  whole_possible n h g =
      let below : 2 ^ n - 1 < 2 ^ n = omega (arith, pow_pos n) in
      ap (bit 0) ((g (2 ^ n - 1) below).possible ∙ row-take true φ l n (2 ^ n - 1) below)
      ∙ subst (λ m. bit 0 (row_of true φ (take n l) (2 ^ m - 1)) ≡ possible φ 0 (take n l)) (length-take-le n l h) (row_whole true φ (take n l))

  pub fewer : (n m : ℕ) → n ≤ m → Known φ l sets m → Known φ l sets n
  fewer n m h g x b = g x (omega arith)

  -- and its users are theirs
  pub acted_by : (j : ℕ) → j ≤ length l → Known φ l sets (2 ^ j) → Acting (take j l) (users_at sets (2 ^ j - 1))
  acted_by j h g =
      let below : 2 ^ j - 1 < 2 ^ j = omega (arith, pow_pos j) in
      subst (λ m. Acting m (users_at sets (2 ^ j - 1)))
      (sym (select-take j l (2 ^ j - 1) below) ∙ subst (λ m. select (2 ^ m - 1) (take j l) ≡ take j l) (length-take-le j l h) (select-all (take j l)))
      (g (2 ^ j - 1) below).sides.acting

pub one-tried : (m : Masks) (ops : List ℕ) (l : List Action) (a : Action) (sets sets' : List Entry) (r : Bool)
    → Added m ops l a sets sets' → r ≡ bit 0 (possible_in (left_at sets' (2 ^ (length l + 1) - 1))) → Tries m ops l a sets sets' r
one-tried m ops l a sets sets' r added is φ u g =
    let j = length l in
    let more : List Action = l ++ (a ∷ []) in
    let n : length more ≡ j + 1 = length-append l (a ∷ []) in
    let all = added φ u g in (
      is ∙ whole_possible φ more sets' (j + 1) (omega arith) all ∙ ap (possible φ 0) (ap (λ k. take k more) (sym n) ∙ take-length more),
      known_alike more l j (take-append_seam l (a ∷ []) ∙ sym (take-length l)) φ sets' (fewer φ more sets' (2 ^ j) (2 ^ (j + 1)) (pow_mono {i = j} {j = j + 1} (omega arith)) all),
    )

-- ── a user alike one who is tried ──
pub as_another : (φ : Term) (l : List Action) (met : List ℕ) (acted u v : ℕ) → Acting l acted → get_or met v 0 ≡ get_or met u 0 → bit u acted ≡ false → bit v acted ≡ false
    → possible φ 0 (l ++ (action_by met v ∷ [])) ≡ possible φ 0 (l ++ (action_by met u ∷ []))
as_another φ l met acted u v who e p q =
    new-user-is_renamed true φ 0 l v u (get_or met v 0) (sym (who v) ∙ q) (sym (who u) ∙ p)
    ∙ ap (λ n. possible φ 0 (l ++ (record { user = u; met = n } ∷ []))) e

pub like_below : {met : List ℕ} {acted u r : ℕ} → u < length met → Like met acted u r → r < length met
like_below h itself = h
like_below h (another a b e p q) = b

module _ (m : Masks) (ops : List ℕ) (l : List Action) (met : List ℕ) (acted tried u : ℕ) (sets : List Entry) (b : Bool) where
  pub judges_alike : (v : ℕ) → Like met acted u v → (v ≡ u → ⊥) → b ≡ bit v tried → Judges m ops l met acted tried u sets sets b
  judges_alike v itself n e φ s who first above = absurd (n refl)
  judges_alike v (another h k same_Met p q) n e φ s who first above = (e ∙ above v h k ∙ as_another φ l met acted u v who same_Met p q, first)

  pub judges_tried : (a : Action) (sets' : List Entry) → a ≡ action_by met u → Tries m ops l a sets sets' b → Judges m ops l met acted tried u sets sets' b
  judges_tried a sets' is t φ s who first above = let (e, after) = t φ s first in (e ∙ ap (λ x. possible φ 0 (l ++ (x ∷ []))) is, after)

-- ── the users tried so far ──
-- those from u on
pub record TriedFrom (φ : Term) (l : List Action) (met : List ℕ) (u tried : ℕ) : Type 0 where
  pub here : (v : ℕ) → u ≤ v → v < length met → bit v tried ≡ possible φ 0 (l ++ (action_by met v ∷ []))
  pub below : (v : ℕ) → v < u → bit v tried ≡ false
  pub past : (v : ℕ) → length met ≤ v → bit v tried ≡ false

module _ (φ : Term) (l : List Action) (met : List ℕ) where
  pub tried-none : TriedFrom φ l met (length met) 0
  tried-none = record { here = λ v a b. absurd (omega arith); below = λ v a. bit_of_zero v; past = λ v a. bit_of_zero v }

  pub tried-more : (u tried tried' : ℕ) (b : Bool) → u < length met → TriedFrom φ l met (u + 1) tried → Marked tried u b tried'
      → b ≡ possible φ 0 (l ++ (action_by met u ∷ [])) → TriedFrom φ l met u tried'
  tried-more u tried tried' b h t k e = record {
    here = λ v p q. at v p q (order v u);
    below = λ v p. other v (λ z. omega arith) ∙ t.below v (omega arith);
    past = λ v p. other v (λ z. omega arith) ∙ t.past v p;
  }
    where
      other : (v : ℕ) → (v ≡ u → ⊥) → bit v tried' ≡ bit v tried
      other v n = k v ∙ ap (λ c. bit v tried || (c && b)) (not_so (eqb v u) (λ o. n (so_eq v u o))) ∙ or-false (bit v tried)

      at : (v : ℕ) → u ≤ v → v < length met → Order v u → bit v tried' ≡ possible φ 0 (l ++ (action_by met v ∷ []))
      at v p q (less o) = absurd (omega arith)
      at v p q (same o) = k v ∙ ap₂ (λ c d. c || (d && b)) (t.below v (omega arith)) (eq_so v u o) ∙ e ∙ ap (λ n. possible φ 0 (l ++ (action_by met n ∷ []))) (sym o)
      at v p q (more o) = other v (λ z. omega arith) ∙ t.here v (omega arith) q

  -- all users
  pub all-tried : (tried : ℕ) → length met ≤ 16 → tried < 2 ^ 16 → TriedFrom φ l met 0 tried → tried ≡ can_act φ l met
  unfolding can_act
  all-tried tried few fits t = bit_ext 16 tried (number digits) fits short (λ v b. at v (lt_or_le v (length met)) ∙ sym (bit-number digits v))
    where
      judge : ℕ → Bool
      judge v = possible φ 0 (l ++ (action_by met v ∷ []))

      digits : List Bool
      digits = map (λ v. possible φ 0 (l ++ (action_by met v ∷ []))) (range 0 (length met))

      long : length digits ≡ length met
      long = length-map (range 0 (length met)) judge ∙ range_length 0 (length met)

      short : number digits < 2 ^ 16
      short = lt_of_lt_of_le (number_lt digits) (pow_mono {j = 16} (omega (arith, long)))

      at : (v : ℕ) → (v < length met) ⊎ (length met ≤ v) → bit v tried ≡ get_or digits v false
      at v (inl k) = t.here v (omega arith) k ∙ sym (map_below judge false (length met) v k)
      at v (inr k) = t.past v k ∙ sym (get_or-eq_default digits false (omega (arith, long)))

  pub nobody : length met ≡ 0 → 0 ≡ can_act φ l met
  unfolding can_act
  nobody e = sym (ap (λ n. number (map (λ v. possible φ 0 (l ++ (action_by met v ∷ []))) (range 0 n))) e)

-- a list by its last element
pub last_apart : (l : List Action) → 0 < length l → take (length l - 1) l ++ (get_or l (length l - 1) (record { user = 0; met = 0 }) ∷ []) ≡ l
last_apart l h =
    let n : length l - 1 + 1 ≡ length l = omega arith in
    sym (take_more l (length l - 1) (record { user = 0; met = 0 }) (omega arith)) ∙ ap (λ k. take k l) n ∙ take-length l

-- where the loop over the users is, the actions l before the last one and the table being as long as it was
pub record Trying (m : Masks) (ops : List ℕ) (l : List Action) (a : Action) (met : List ℕ) (acted : ℕ) (before sets : List Entry) (u tried : ℕ) : Type 0 where
  pub bound : u < length met
  pub fits : tried < 2 ^ 16
  pub lengths : length sets ≡ length before
  pub tries : (φ : Term) → Suited φ m ops → a ≡ action_by met (length met - 1) → Acting l acted × Known φ l sets (2 ^ length l) × TriedFrom φ l met u tried

module _ (m : Masks) (ops : List ℕ) (l : List Action) (a : Action) (met : List ℕ) (acted : ℕ) (before : List Entry) where
  -- the last user's trial stands in the table
  pub try_begin : (u tried : ℕ) (b : Bool) → u + 1 ≡ length met → acted ≡ users_at before (2 ^ length l - 1) → AddedAll m ops (l ++ (a ∷ [])) (2 ^ (length l + 1)) before
      → b ≡ bit 0 (possible_in (left_at before (2 ^ (length l + 1) - 1))) → tried < 2 ^ 16 → Marked 0 u b tried → Trying m ops l a met acted before before u tried
  try_begin u tried b e w g is f k = record {
    bound = omega arith;
    fits = f;
    lengths = refl;
    tries = λ φ s last.
        let more : List Action = l ++ (a ∷ []) in
        let j = length l in
        let n : length more ≡ j + 1 = length-append l (a ∷ []) in
        let q : length met - 1 ≡ u = omega arith in
        let first = known_alike more l j (take-append_seam l (a ∷ []) ∙ sym (take-length l)) φ before
        (fewer φ more before (2 ^ j) (2 ^ (j + 1)) (pow_mono {i = j} {j = j + 1} (omega arith)) (g φ s)) in (
          subst (λ k. Acting k acted) (take-length l) (subst (Acting (take j l)) (sym w) (acted_by φ l before j (omega arith) first)),
          first,
          tried-more φ l met u 0 tried b (omega arith) (subst (λ n. TriedFrom φ l met n 0) (sym e) (tried-none φ l met)) k
              (is ∙ whole_possible φ more before (j + 1) (omega arith) (g φ s) ∙ ap (possible φ 0) (ap (λ k. take k more) (sym n) ∙ take-length more)
              ∙ ap (λ x. possible φ 0 (l ++ (x ∷ []))) (last ∙ ap (action_by met) q)),
        );
  }

  -- the actions before the last one being k
  pub try_begin_at : (k u tried : ℕ) (b : Bool) → length l ≡ k → u + 1 ≡ length met → acted ≡ users_at before (2 ^ k - 1) → AddedAll m ops (l ++ (a ∷ [])) (2 ^ (k + 1)) before
      → b ≡ bit 0 (possible_in (left_at before (2 ^ (k + 1) - 1))) → tried < 2 ^ 16 → Marked 0 u b tried → Trying m ops l a met acted before before u tried
  try_begin_at k u tried b n e =
      subst (λ i. acted ≡ users_at before (2 ^ i - 1) → AddedAll m ops (l ++ (a ∷ [])) (2 ^ (i + 1)) before
      → b ≡ bit 0 (possible_in (left_at before (2 ^ (i + 1) - 1))) → tried < 2 ^ 16 → Marked 0 u b tried → Trying m ops l a met acted before before u tried) n (try_begin u tried b e)

  pub try_turn : (sets sets' : List Entry) (u tried tried' : ℕ) (b : Bool) → 0 < u → Trying m ops l a met acted before sets u tried → length sets' ≡ length sets
      → Judges m ops l met acted tried (u - 1) sets sets' b → tried' < 2 ^ 16 → Marked tried (u - 1) b tried' → Trying m ops l a met acted before sets' (u - 1) tried'
  try_turn sets sets' u tried tried' b h t e judges f k = let bound = t.bound in record {
    bound = omega arith;
    fits = f;
    lengths = e ∙ t.lengths;
    tries = λ φ s last.
        let (who, first, so_far) = t.tries φ s last in
        let (is, after) = judges φ s who first (λ v p q. so_far.here v (omega arith) q) in
        let n : u ≡ u - 1 + 1 = omega arith in
        (who, after, tried-more φ l met (u - 1) tried tried' b (omega arith) (subst (λ x. TriedFrom φ l met x tried) n so_far) k is);
  }

  pub try_end : (sets : List Entry) (u tried : ℕ) → u ≤ 0 → length met ≤ 16 → Trying m ops l a met acted before sets u tried → (φ : Term) → Suited φ m ops → a ≡ action_by met (length met - 1)
      → tried ≡ can_act φ l met
  try_end sets u tried z few t φ s last =
      let first : u ≡ 0 = omega arith in
      all-tried φ l met tried few t.fits (subst (λ x. TriedFrom φ l met x tried) first (t.tries φ s last).2)

pub try_nobody : (m : Masks) (ops : List ℕ) (l : List Action) (met : List ℕ) → length met ≡ 0 → TriesEach m ops l met 0
try_nobody m ops l met e φ s last = nobody φ (take (length l - 1) l) met e

pub try_no_action : (m : Masks) (ops : List ℕ) (l : List Action) (met : List ℕ) → length l ≡ 0 → TriesEach m ops l met 0
try_no_action m ops l met e φ s last = nobody φ (take (length l - 1) l) met (by (lt_or_le 0 (length met)))
  where
    by : (0 < length met) ⊎ (length met ≤ 0) → length met ≡ 0
    by (inl k) = absurd (omega (arith, (last k).0))
    by (inr k) = omega arith
