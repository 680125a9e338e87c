-- The workspace as one list: a column for satisfied, one for possible, each with zeros behind its sets, and what stood past them.
use mathlib.Core.Path.{◌≡◌, sym, ◌∙◌, ap, ap₂, subst}
use mathlib.Core.Bool.{Bool, true, false, So}
use mathlib.Core.List.{List, [], ◌∷◌, ◌++◌, map}
use mathlib.Core.Logic.{◌⊎◌, inl, inr}
use Prim.Native.Nat.{ℕ, zero, suc, ◌+◌, ◌-◌, ◌^◌, ◌≤◌, ◌<◌}
use native.Mathlib.Omega.{arith}
use lib.Dec.{ltb}
use lib.ListN.{length, get_or, take, drop, replicate, length-append, length-map, length-replicate, length-drop, get_or-replicate, get_or-append}
use lib.Pow.{pow_mono}
use lib.Seq.{get_or-append-add, get_or-drop, get_or-take, ext_get_or, length-take-le, take_at}
use Rattle.soda.specs.Bits.{number}
use Rattle.soda.specs.Lists.{all, range}
use Rattle.soda.specs.Terms.{Term, size}
use Rattle.soda.proofs.Bools.{and_split, so_lt, lt_or_le}
use Rattle.soda.proofs.Bits.{bit-number}
use Rattle.soda.proofs.Lists.{range_length, map_below}
use Rattle.shape.specs.Shapes.{right_sides}
use Rattle.shape.specs.declared.Shape.{Shape}
use Rattle.workspace.specs.Workspace.{select, judged, row_of, column, table_of, filled, WordIsRow, BitIsJudged}
use Rattle.workspace.specs.Private.{Masked, Ascending, Listing, Operators, Coded, Suited, Cleared, RowsStand, Shaped}
use Rattle.soda.specs.declared.Action.{Action}
use Rattle.workspace.specs.declared.masks.Masks.{Masks}
use Rattle.workspace.proofs.Select.{select-take}
use Rattle.workspace.proofs.Subterms.{rights-length, ascending}
use Rattle.workspace.proofs.Complete.{listing-same}

-- ── what a shape gives ──
module _ {p : Shape} (w : Shaped p) where
  pub words_size : p.words ≡ size w.term
  words_size = ap (λ q. q.words) w.is

  pub placed : take p.words p.right ≡ right_sides 0 w.term
  placed =
      ap₂ (λ n l. take n l) words_size (ap (λ q. q.right) w.is)
      ∙ take_at (right_sides 0 w.term) (replicate (31 - length (right_sides 0 w.term)) 0) (size w.term) (rights-length 0 w.term)

  pub words-below : p.words ≤ length p.right
  words-below =
      omega (arith, words_size, ap (λ q. length q.right) w.is, rights-length 0 w.term, length-append (right_sides 0 w.term) (replicate (31 - length (right_sides 0 w.term)) 0))

  pub ascends : Ascending (take p.words p.right)
  ascends = subst Ascending (sym placed) (ascending w.term w.formed w.short)

  pub suited : (m : Masks) → Masked p m → (ops : List ℕ) (n : ℕ) → n ≤ length ops → Operators m.either m.both (take p.words p.right) ops n
      → Suited w.term m (take n ops)
  suited m h ops n b o = record {
    formed = w.formed;
    short = w.short;
    masked = subst (λ q. Masked q m) w.is h;
    listed =
        let n-is = length-take-le n ops b in
        subst (λ k. Listing m.either m.both (right_sides 0 w.term) (take n ops) k (size w.term)) (sym n-is)
        (listing-same ops (take n ops) n (size w.term) (λ j h. get_or-take n ops j 0 h)
        (subst (λ l. Listing m.either m.both l ops n (size w.term)) placed
        (subst (Listing m.either m.both (take p.words p.right) ops n) (ap length placed ∙ rights-length 0 w.term) o.listing)));
  }

pub coded-take : {either both : ℕ} {places : List ℕ} (ops : List ℕ) (n : ℕ) → n ≤ length ops → Operators either both places ops n → Coded (take n ops)
coded-take ops n b o j h =
    let k : j < n = omega (arith, h, length-take-le n ops b) in subst (λ x. x < 1024) (sym (get_or-take n ops j 0 k)) (o.coded j k)

-- the user of one of the actions
pub user-below : (l : List Action) (j : ℕ) → So (all (λ a. ltb a.user 16) l) → j < length l → (get_or l j (record { user = 0; met = 0 })).user < 16
user-below [] j a h = absurd (omega arith)
user-below (x ∷ l) zero a h = so_lt x.user 16 (and_split (ltb x.user 16) (all (λ b. ltb b.user 16) l) a).0
user-below (x ∷ l) (suc j) a h = user-below l j (and_split (ltb x.user 16) (all (λ b. ltb b.user 16) l) a).1 (omega arith)

-- ── the list ──
module _ (φ : Term) (l : List Action) (cap : 2 ^ length l ≤ 4096) where
  module _ (e : Bool) where
    sets : List ℕ
    sets = map (row_of e φ l) (range 0 (2 ^ length l))

    sets_length : length sets ≡ 2 ^ length l
    unfolding sets
    sets_length = length-map (range 0 (2 ^ length l)) (row_of e φ l) ∙ range_length 0 (2 ^ length l)

    column-length : length (column e φ l) ≡ 4096
    unfolding column sets
    column-length = omega (arith, length-append sets (replicate (4096 - 2 ^ length l) 0), sets_length, length-replicate {A = ℕ} (4096 - 2 ^ length l) 0)

    column_at : (k : ℕ) → k < 2 ^ length l → get_or (column e φ l) k 0 ≡ row_of e φ l k
    unfolding column sets
    column_at k h =
        get_or-append sets (replicate (4096 - 2 ^ length l) 0) 0 k (omega (arith, sets_length)) ∙ map_below (row_of e φ l) 0 (2 ^ length l) k h

    column-past : (k : ℕ) → 2 ^ length l ≤ k → k < 4096 → get_or (column e φ l) k 0 ≡ 0
    unfolding column sets
    column-past k h b =
        let z : k ≡ length sets + (k - 2 ^ length l) = omega (arith, sets_length) in
        ap (λ n. get_or (sets ++ replicate (4096 - 2 ^ length l) 0) n 0) z ∙ get_or-append-add sets (replicate (4096 - 2 ^ length l) 0) (k - 2 ^ length l) 0
        ∙ get_or-replicate (4096 - 2 ^ length l) (k - 2 ^ length l) 0 0 (omega arith)

  table-length : length (table_of φ l) ≡ 8192
  unfolding table_of
  table-length = omega (arith, length-append (column false φ l) (column true φ l), column-length false, column-length true)

  module _ (room : List ℕ) where
    -- a word of the table, whatever stood there
    pub filled-word : (k : ℕ) → k < 8192 → get_or (filled φ l room) k 0 ≡ get_or (table_of φ l) k 0
    unfolding filled
    filled-word k h = get_or-append (table_of φ l) (drop 8192 room) 0 k (omega (arith, table-length))

    filled-low : (k : ℕ) → k < 4096 → get_or (filled φ l room) k 0 ≡ get_or (column false φ l) k 0
    unfolding table_of
    filled-low k h = filled-word k (omega arith) ∙ get_or-append (column false φ l) (column true φ l) 0 k (omega (arith, column-length false))

    filled-high : (k : ℕ) → k < 4096 → get_or (filled φ l room) (4096 + k) 0 ≡ get_or (column true φ l) k 0
    unfolding table_of
    filled-high k h =
        let z : 4096 + k ≡ length (column false φ l) + k = omega (arith, column-length false) in
        filled-word (4096 + k) (omega arith) ∙ ap (λ n. get_or (column false φ l ++ column true φ l) n 0) z
        ∙ get_or-append-add (column false φ l) (column true φ l) k 0

    filled-rest : (k : ℕ) → get_or (filled φ l room) (8192 + k) 0 ≡ get_or room (8192 + k) 0
    unfolding filled
    filled-rest k =
        let z : 8192 + k ≡ length (table_of φ l) + k = omega (arith, table-length) in
        ap (λ n. get_or (table_of φ l ++ drop 8192 room) n 0) z ∙ get_or-append-add (table_of φ l) (drop 8192 room) k 0 ∙ get_or-drop 8192 room k 0

    filled-length : 8192 ≤ length room → length (filled φ l room) ≡ length room
    unfolding filled
    filled-length h = omega (arith, length-append (table_of φ l) (drop 8192 room), table-length, length-drop 8192 room)

pub word-is-row : WordIsRow
word-is-row φ l room s few h =
    let cap : 2 ^ length l ≤ 4096 = pow_mono {j = 12} few in
    let low : s < 4096 = omega arith in
    (filled-low φ l cap room s low ∙ column_at φ l cap false s h, filled-high φ l cap room s low ∙ column_at φ l cap true s h)

pub bit-is-judged : BitIsJudged
unfolding row_of
bit-is-judged e φ l s i h = bit-number (map (judged e φ (select s l)) (range 0 (size φ))) i ∙ map_below (judged e φ (select s l)) false (size φ) i h

-- what the sets of the actions have, zeros behind them, and the rest of the workspace
pub record Whole (φ : Term) (l : List Action) (room after : List ℕ) : Type 0 where
  pub satisfied : (x : ℕ) → x < 2 ^ length l → get_or after x 0 ≡ row_of false φ l x
  pub possible : (x : ℕ) → x < 2 ^ length l → get_or after (4096 + x) 0 ≡ row_of true φ l x
  pub low : (k : ℕ) → 2 ^ length l ≤ k → k < 4096 → get_or after k 0 ≡ 0
  pub high : (k : ℕ) → 4096 + 2 ^ length l ≤ k → k < 8192 → get_or after k 0 ≡ 0
  pub rest : (k : ℕ) → 8192 ≤ k → get_or after k 0 ≡ get_or room k 0

pub row-take : (e : Bool) (φ : Term) (l : List Action) (n x : ℕ) → x < 2 ^ n → row_of e φ l x ≡ row_of e φ (take n l) x
unfolding row_of
row-take e φ l n x h = ap (λ k. number (map (judged e φ k) (range 0 (size φ)))) (sym (select-take n l x h))

pub whole_is : (φ : Term) (l : List Action) (room after : List ℕ) → length l ≤ 12 → 8192 ≤ length room → length after ≡ length room
    → Whole φ l room after → after ≡ filled φ l room
whole_is φ l room after h b e w = ext_get_or 0 after (filled φ l room) (e ∙ sym (filled-length φ l cap room b)) (λ i _. at i (lt_or_le i 4096) (lt_or_le i 8192))
  where
    cap : 2 ^ length l ≤ 4096
    cap = pow_mono {j = 12} h

    low : (i : ℕ) → i < 4096 → (i < 2 ^ length l) ⊎ (2 ^ length l ≤ i) → get_or after i 0 ≡ get_or (column false φ l) i 0
    low i c (inl d) = w.satisfied i d ∙ sym (column_at φ l cap false i d)
    low i c (inr d) = w.low i d c ∙ sym (column-past φ l cap false i d c)

    high : (i : ℕ) → i < 4096 → (i < 2 ^ length l) ⊎ (2 ^ length l ≤ i) → get_or after (4096 + i) 0 ≡ get_or (column true φ l) i 0
    high i c (inl d) = w.possible i d ∙ sym (column_at φ l cap true i d)
    high i c (inr d) = w.high (4096 + i) (omega arith) (omega arith) ∙ sym (column-past φ l cap true i d c)

    at : (i : ℕ) → (i < 4096) ⊎ (4096 ≤ i) → (i < 8192) ⊎ (8192 ≤ i) → get_or after i 0 ≡ get_or (filled φ l room) i 0
    at i (inl c) o = low i c (lt_or_le i (2 ^ length l)) ∙ sym (filled-low φ l cap room i c)
    at i (inr c) (inl d) =
        let z : 4096 + (i - 4096) ≡ i = omega arith in
        subst (λ m. get_or after m 0 ≡ get_or (filled φ l room) m 0) z
        (high (i - 4096) (omega arith) (lt_or_le (i - 4096) (2 ^ length l)) ∙ sym (filled-high φ l cap room (i - 4096) (omega arith)))
    at i (inr c) (inr d) =
        let z : 8192 + (i - 8192) ≡ i = omega arith in
        w.rest i d ∙ subst (λ m. get_or room m 0 ≡ get_or (filled φ l room) m 0) z (sym (filled-rest φ l cap room (i - 8192)))

-- the rows in a workspace that was cleared
pub whole : {m : Masks} {ops : List ℕ} (φ : Term) (l : List Action) (room cleared after : List ℕ) → length l ≤ 12 → Cleared 8192 room cleared
    → RowsStand m ops l (2 ^ length l) cleared after → Suited φ m ops → Whole φ l room after
whole φ l room cleared after h c r u = record {
  satisfied = r.satisfied φ u;
  possible = r.possible φ u;
  low = λ x p b. r.kept.low x p b ∙ c.zeros x (omega arith);
  high = λ x p b. r.kept.high x p ∙ c.zeros x b;
  rest = λ x p. r.kept.high x (omega (arith, pow_mono {j = 12} h)) ∙ c.stay x p;
}
