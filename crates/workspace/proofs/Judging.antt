-- The row that the steps compute is the row of the set: by induction on the term that stands at a word.
use mathlib.Core.Path.{◌≡◌, refl, sym, ◌∙◌, ap, ap₂}
use mathlib.Core.Bool.{Bool, true, false, So, ◌&&◌, ◌||◌, cond, true≢false, false≢true, and-true, and-false, and_assoc, or-true, or-false}
use mathlib.Core.List.{List, [], ◌∷◌}
use Prim.Native.Nat.{ℕ, suc, ◌+◌, ◌-◌, ◌^◌, ◌≤◌, ◌<◌}
use native.Mathlib.Omega.{arith}
use borrow.Author.Tests.{lt-ltb, le-ltb}
use lib.Bits.{bit_and, bit_or}
use lib.Dec.{eqb, eqb-suc-suc, eqb-suc-zero}
use lib.ListN.{length, get_or}
use Rattle.soda.specs.Bits.{bit}
use Rattle.soda.specs.Lists.{all}
use Rattle.soda.specs.Terms.{Op, either, both, together, apart, Term, everyone, role, set, ¬ᵗ◌, ◌⁺, bin, same_op, unit_op, unit, well_formed, size, term_at, marks}
use Rattle.soda.specs.Tables.{single, several, disjoint, join, table, bit_table}
use Rattle.soda.proofs.Bools.{not_so, and_split, and-join, or_right}
use Rattle.soda.proofs.Bits.{bit_of_zero}
use Rattle.soda.proofs.Terms.{stands_here, bit_standing, bit-marks-past, size_pos}
use Rattle.soda.proofs.Tables.{empty_set}
use Rattle.soda.proofs.Parts.{part_is-possible, satisfied-is-possible}
use Rattle.shape.specs.Shapes.{is_plus, is_op, right_sides}
use Rattle.rows.specs.Rows.{place, Packed, Chance, based}
use Rattle.rows.proofs.Digits.{bit-or, bit-ones, in_both}
use Rattle.workspace.specs.Workspace.{select, judged}
use Rattle.workspace.specs.Private.{left_at, users_at, Part, Joined, matched_apart, jointly, by_sides, Finished, Suited, RowIs, SidesAt}
use Rattle.soda.specs.declared.Action.{Action}
use Rattle.workspace.specs.declared.entry.Entry.{Entry}
use Rattle.workspace.specs.declared.masks.Masks.{Masks}
use Rattle.workspace.proofs.Submask.{Within}
use Rattle.workspace.proofs.Select.{cut}
use Rattle.workspace.proofs.Subterms.{Stood, stood, stood_left, stood_right, right_side, right-inside, rights-length}
use Rattle.workspace.proofs.Joint.{disjoint_masks, agree, parted, joint_part, joint_law}

-- the table over actions as the workspace keeps them
abbrev judge : Bool → Term → ℕ → List Action → Bool
judge e φ i l = bit_table (λ a. a.user) (λ a. a.met) e φ i l

abbrev met_at : ℕ → Action → Bool
met_at i a = bit i a.met

-- ── the table's rows over one action or more ──
unit_row : (e : Bool) (φ : Term) (i : ℕ) (l : List Action) → So (unit φ) → judge e φ i l ≡ single e (met_at i) l
unfolding table
unit_row e everyone i l u = refl
unit_row e (role r) i l u = refl
unit_row e (set m) i l u = refl
unit_row e (¬ᵗ φ) i l u = refl
unit_row e (φ ⁺) i l u = absurd (false≢true u)
unit_row e (bin op φ ψ) i l u = rw u

unit_flags : (φ : Term) → So (unit φ) → (is_plus φ ≡ false) × ((op : Op) → is_op op φ ≡ false)
unit_flags everyone u = (refl, λ op. refl)
unit_flags (role r) u = (refl, λ op. refl)
unit_flags (set m) u = (refl, λ op. refl)
unit_flags (¬ᵗ φ) u = (refl, λ op. refl)
unit_flags (φ ⁺) u = absurd (false≢true u)
unit_flags (bin o φ ψ) u = (refl, λ op. ap (λ b. cond b false (same_op op o)) u)

module _ (e : Bool) (f : Action → Bool) where
  single-is : (n : ℕ) (l : List Action) → length l ≡ n → (n ≡ 0 → ⊥) → (eqb n 1 && all f l) ≡ single e f l
  single-is n [] h k = absurd (k (sym h))
  single-is n (a ∷ []) h k = ap (λ m. eqb m 1 && (f a && true)) (sym h) ∙ and-true (f a)
  single-is n (a ∷ b ∷ l) h k = ap (λ m. eqb m 1 && all f (a ∷ b ∷ l)) (sym h) ∙ ap (λ c. c && all f (a ∷ b ∷ l)) (eqb-suc-suc (suc (length l)) 0 ∙ eqb-suc-zero (length l))

  several-is : (n : ℕ) (l : List Action) → length l ≡ n → (n ≡ 0 → ⊥) → all f l ≡ several e f l
  several-is n [] h k = absurd (k (sym h))
  several-is n (a ∷ l) h k = refl

-- ── the rule of a word ──
-- by the rows U P E B T A of its term; n: one action; m, m1: what all actions met; j: its parts; l, r: its sides
abbrev form : Bool → Bool → Bool → Bool → Bool → Bool → Bool → Bool → Bool → Bool → Bool → Bool → Bool → Bool
form e n m m1 j l r U P E B T A = (((n && (m && U)) || (m1 && P)) || j) || (((E || (e && (T || A))) && (l || r)) || (B && (l && r)))

module _ (e n m m1 l r : Bool) where
  form-unit : form e n m m1 false l r true false false false false false ≡ (n && m)
  form-unit = simp (and-true, and-false, or-false)

  form-plus : form e n m m1 false l r false true false false false false ≡ m1
  form-plus = simp (and-true, and-false, or-false)

  form-either : form e n m m1 false l r false false true false false false ≡ (l || r)
  form-either = simp (and-false, or-false)

  form_both : form e n m m1 false l r false false false true false false ≡ (l && r)
  form_both = simp (and-false, or-false)

  form-joint : (j a b : Bool) → (a || b) ≡ true → form e n m m1 j l r false false false false a b ≡ (j || (e && (l || r)))
  form-joint j a b o = simp (o, and-true, and-false, or-false)

-- an operator that is no unit term by itself
is-joint : (op : Op) (α β : Term) → unit_op op ≡ false → So (is_op together (bin op α β) || is_op apart (bin op α β))
is-joint either α β u = absurd (true≢false u)
is-joint both α β u = absurd (true≢false u)
is-joint together α β u = refl
is-joint apart α β u = refl

agreed : (op : Op) (α β : Term) → unit_op op ≡ false → (d anyone : Bool) (x y : List Action) → d ≡ disjoint (λ a. a.user) x y → anyone ≡ is_op together (bin op α β)
    → (d || anyone) ≡ agree (λ a. a.user) op x y
agreed either α β u d anyone x y p q = absurd (true≢false u)
agreed both α β u d anyone x y p q = absurd (true≢false u)
agreed together α β u d anyone x y p q = ap (λ b. d || b) q ∙ or-true d
agreed apart α β u d anyone x y p q = ap₂ ◌||◌ p q ∙ or-false (disjoint (λ a. a.user) x y)

to_possible : (e : Bool) (ψ : Term) (i : ℕ) (l : List Action) → So (judge e ψ i l) → So (judge true ψ i l)
to_possible true ψ i l h = h
to_possible false ψ i l h = satisfied-is-possible Action (λ a. a.user) (λ t k a. bit k a.met) ψ i l h

-- all that the steps of a row with at least one action ensure
pub record Stepped (φ : Term) (l : List Action) (m : Masks) (ops : List ℕ) (sets : List Entry) (s ones met joint base row right : ℕ) : Type 0 where
  pub suited : Suited φ m ops
  pub known : (x : ℕ) → x < s → SidesAt φ l sets x
  pub some : ones ≡ 0 → ⊥
  pub count : length (select s l) ≡ ones
  pub noted : (e : Bool) (i : ℕ) → i < 32 → bit (place e i) met ≡ all (met_at i) (select s l)
  pub one : ℕ
  pub two : ℕ
  pub parts : (Within one s × (one < s)) × (Within two s × (two < s))
  pub chance : ℕ
  pub chances : Chance m.joint (left_at sets one) (left_at sets two) chance
  pub joined : Joined (jointly chance m.anyone sets s) s joint
  pub is_base : (q : ℕ) → bit q base ≡ (based m.units m.plus met ones q || bit q joint)
  pub finished : Finished base m.either m.both (right_sides 0 φ) row right

module _ {φ : Term} {l : List Action} {m : Masks} {ops : List ℕ} {sets : List Entry} {s ones met joint base row right : ℕ}
    (F : Stepped φ l m ops sets s ones met joint base row right) where
  abbrev S : List Action
  S = select s l

  -- no part is asked for at other words than those of together and apart
  unmarked : (e : Bool) (i : ℕ) → i < 32 → bit (place e i) m.joint ≡ false → bit (place e i) joint ≡ false
  unmarked e i h n =
      let q = place e i in
      not_so (bit q joint) (λ o. let w = F.joined.found q o in
      let k = (and_split (bit q F.chance) (matched_apart sets m.anyone s w.0 q) w.2).0 in
      true≢false (sym (and_split (bit q m.joint) (bit (31 + i) (left_at sets F.one) && bit (31 + i) (left_at sets F.two)) (sym (F.chances e i h) ∙ k)).0 ∙ n))

  -- what is judged of the term that stands at a word
  judged_at : {i : ℕ} {ψ : Term} → Stood φ i ψ → (e : Bool) (k : List Action) → judged e φ k i ≡ judge e ψ i k
  unfolding judged
  judged_at {i} st e k = ap (λ t. judge e t i k) (stands_here st.stands)

  module _ {i : ℕ} {ψ : Term} (st : Stood φ i ψ) (e : Bool) where
    below : i < size φ
    below = omega (arith, st.stands.inside, size_pos ψ)

    low : i < 31
    low = omega (arith, below, F.suited.short)

    -- the digits of the masks
    mark : (k : Term → Bool) (r : ℕ) → Packed (marks k φ) (marks k φ) r → bit (place e i) r ≡ k ψ
    mark k r p = in_both e (marks k φ) r i (omega (arith, low)) p ∙ bit_standing k st.stands

    joint_bits : bit i (bit_or (marks (is_op together) φ) (marks (is_op apart) φ)) ≡ (is_op together ψ || is_op apart ψ)
    joint_bits = bit-or i (marks (is_op together) φ) (marks (is_op apart) φ) ∙ ap₂ ◌||◌ (bit_standing (is_op together) st.stands) (bit_standing (is_op apart) st.stands)

    joint_mark : bit (place e i) m.joint ≡ (is_op together ψ || is_op apart ψ)
    joint_mark = in_both e (bit_or (marks (is_op together) φ) (marks (is_op apart) φ)) m.joint i (omega (arith, low)) F.suited.masked.joint ∙ joint_bits

    either_mark : bit (place e i) m.either ≡ (is_op either ψ || (e && (is_op together ψ || is_op apart ψ)))
    either_mark = F.suited.masked.either e i (omega (arith, low)) ∙ by e
      where
        by : (b : Bool) → bit i (cond b (bit_or (marks (is_op either) φ) (bit_or (marks (is_op together) φ) (marks (is_op apart) φ))) (marks (is_op either) φ))
            ≡ (is_op either ψ || (b && (is_op together ψ || is_op apart ψ)))
        by true = bit-or i (marks (is_op either) φ) (bit_or (marks (is_op together) φ) (marks (is_op apart) φ)) ∙ ap₂ ◌||◌ (bit_standing (is_op either) st.stands) joint_bits
        by false = bit_standing (is_op either) st.stands ∙ sym (or-false (is_op either ψ))

    rule : bit (place e i) row
        ≡ form e (eqb ones 1) (all (met_at i) S) (all (met_at (1 + i)) S) (bit (place e i) joint) (bit (place e (1 + i)) row) (bit (place e (get_or (right_sides 0 φ) i 0)) row)
        (unit ψ) (is_plus ψ) (is_op either ψ) (is_op both ψ) (is_op together ψ) (is_op apart ψ)
    rule =
        let n : 1 + place e i ≡ place e (1 + i) = omega arith in
        let next = ap (λ k. bit k met) n ∙ F.noted e (1 + i) (omega (arith, low)) in
        F.finished.rule e i (omega (arith, below, rights-length 0 φ))
        ∙ ap (λ b. b || by_sides e row m.either m.both i (get_or (right_sides 0 φ) i 0)) (F.is_base (place e i))
        ∙ (λ t. (((eqb ones 1 && (F.noted e i (omega (arith, low)) t && mark unit m.units F.suited.masked.units t)) || (next t && mark is_plus m.plus F.suited.masked.plus t)) || bit (place e i) joint)
        || ((either_mark t && (bit (place e (1 + i)) row || bit (place e (get_or (right_sides 0 φ) i 0)) row))
        || (mark (is_op both) m.both F.suited.masked.both t && (bit (place e (1 + i)) row && bit (place e (get_or (right_sides 0 φ) i 0)) row))))

    no_joint : (is_op together ψ || is_op apart ψ) ≡ false → bit (place e i) joint ≡ false
    no_joint n = unmarked e i (omega (arith, low)) (joint_mark ∙ n)

    unit-case : So (unit ψ) → bit (place e i) row ≡ judge e ψ i S
    unit-case u =
        let f = unit_flags ψ u in
        let j = no_joint (λ t. f.1 together t || f.1 apart t) in
        rule
        ∙ (λ t. form e (eqb ones 1) (all (met_at i) S) (all (met_at (1 + i)) S) (j t) (bit (place e (1 + i)) row) (bit (place e (get_or (right_sides 0 φ) i 0)) row)
        (u t) (f.0 t) (f.1 either t) (f.1 both t) (f.1 together t) (f.1 apart t))
        ∙ form-unit e (eqb ones 1) (all (met_at i) S) (all (met_at (1 + i)) S) (bit (place e (1 + i)) row) (bit (place e (get_or (right_sides 0 φ) i 0)) row)
        ∙ single-is e (met_at i) ones S F.count F.some ∙ sym (unit_row e ψ i S u)

  plus-case : {i : ℕ} {ψ : Term} → Stood φ i (ψ ⁺) → (e : Bool) → bit (place e i) row ≡ judge e (ψ ⁺) i S
  unfolding table
  plus-case {i} st e =
      rule st e
      ∙ (λ t. form e (eqb ones 1) (all (met_at i) S) (all (met_at (1 + i)) S) (no_joint st e refl t) (bit (place e (1 + i)) row) (bit (place e (get_or (right_sides 0 φ) i 0)) row)
      false true false false false false)
      ∙ form-plus e (eqb ones 1) (all (met_at i) S) (all (met_at (1 + i)) S) (bit (place e (1 + i)) row) (bit (place e (get_or (right_sides 0 φ) i 0)) row)
      ∙ several-is e (met_at (1 + i)) ones S F.count F.some

  -- an operator with what is judged of its sides
  module _ {i : ℕ} {op : Op} {α β : Term} (st : Stood φ i (bin op α β)) (e : Bool) where
    -- the part x at the left side, and the rest of the set at the right side
    part_bit : unit_op op ≡ false → (x : ℕ) → Part x s
        → (matched_apart sets m.anyone s x (place e i)) ≡ parted (λ a. a.user) (judge e α (1 + i)) (judge e β (1 + i + size α)) op l s x
    part_bit u x p =
        let here = is-joint op α β u in
        let a = F.known x p.less in
        let b = F.known (s - x) (omega (arith, p.some, p.less)) in
        let one = a.lefts e i (omega (arith, st.stands.inside, size_pos α, size_pos β)) ∙ judged_at (stood_left st) e (select x l) in
        let two = b.rights e i (below st e) (ap (λ t. is_op together t || is_op apart t) (stands_here st.stands) ∙ here)
        ∙ ap (judged e φ (select (s - x) l)) (right_side st) ∙ judged_at (stood_right st) e (select (s - x) l) in
        let users-agree = agreed op α β u (eqb (bit_and (users_at sets x) (users_at sets (s - x))) 0) (bit (place e i) m.anyone) (select x l) (select (s - x) l)
        (disjoint_masks (λ a. a.user) (users_at sets x) (users_at sets (s - x)) (select x l) (select (s - x) l) a.acting b.acting)
        (mark st e (is_op together) m.anyone F.suited.masked.anyone) in
        ◌∙◌ {c = parted (λ a. a.user) (judge e α (1 + i)) (judge e β (1 + i + size α)) op l s x} (λ t. (one t && two t) && users-agree t)
        (and_assoc (judge e α (1 + i) (select x l)) (judge e β (1 + i + size α) (select (s - x) l)) (agree (λ a. a.user) op (select x l) (select (s - x) l)))

    -- a word that some part shows has a chance
    hopeful : unit_op op ≡ false → (x : ℕ) → Part x s → So (parted (λ a. a.user) (judge e α (1 + i)) (judge e β (1 + i + size α)) op l s x)
        → So (bit (place e i) F.chance)
    unfolding table
    hopeful u x p o =
        F.chances e i (omega (arith, low st e))
        ∙ and-join (bit (place e i) m.joint) (bit (31 + i) (left_at sets F.one) && bit (31 + i) (left_at sets F.two)) (joint_mark st e ∙ is-joint op α β u)
        (and-join (bit (31 + i) (left_at sets F.one)) (bit (31 + i) (left_at sets F.two)) (at F.one F.parts.0) (at F.two F.parts.1))
      where
        whole : So (judge e (bin op α β) i S)
        whole = ap (λ b. cond (b && (unit α && unit β)) (single e (met_at i) S) (join (λ a. a.user) op (judge e α (1 + i)) (judge e β (1 + i + size α)) S)) u
            ∙ joint_part (λ a. a.user) (judge e α (1 + i)) (judge e β (1 + i + size α)) op u l s x p o

        at : (y : ℕ) → Within y s × (y < s) → So (bit (31 + i) (left_at sets y))
        at y w =
            (F.known y w.1).possible i (below st e) ∙ judged_at st true (select y l)
            ∙ part_is-possible Action (λ a. a.user) (λ t k a. bit k a.met) (bin op α β) i S (select y l) (select (s - y) l) (cut l s y w.0)
            (to_possible e (bin op α β) i S whole)

    joint-case : unit_op op ≡ false → (bit (place e i) joint || (e && (judge e α (1 + i) S || judge e β (1 + i + size α) S)))
        ≡ join (λ a. a.user) op (judge e α (1 + i)) (judge e β (1 + i + size α)) S
    joint-case u =
        joint_law (λ a. a.user) (judge e α (1 + i)) (judge e β (1 + i + size α)) op u e
        (empty_set Action (λ a. a.user) (λ t k a. bit k a.met) e α (1 + i)) (empty_set Action (λ a. a.user) (λ t k a. bit k a.met) e β (1 + i + size α))
        l s (bit (place e i) joint)
        (λ o. let w = F.joined.found (place e i) o in
        (w.0, w.1, sym (part_bit u w.0 w.1) ∙ (and_split (bit (place e i) F.chance) (matched_apart sets m.anyone s w.0 (place e i)) w.2).1))
        (λ x p o. F.joined.each (place e i) x p
        (and-join (bit (place e i) F.chance) (matched_apart sets m.anyone s x (place e i)) (hopeful u x p o) (part_bit u x p ∙ o)))

    -- the rule, for no unit term
    bin-rule : unit (bin op α β) ≡ false → (k : Bool) → bit (place e i) joint ≡ k
        → bit (place e (1 + i)) row ≡ judge e α (1 + i) S → bit (place e (1 + i + size α)) row ≡ judge e β (1 + i + size α) S
        → bit (place e i) row
        ≡ form e (eqb ones 1) (all (met_at i) S) (all (met_at (1 + i)) S) k (judge e α (1 + i) S) (judge e β (1 + i + size α) S)
        false false (same_op either op) (same_op both op) (same_op together op) (same_op apart op)
    bin-rule u k j a b =
        rule st e
        ∙ (λ t. form e (eqb ones 1) (all (met_at i) S) (all (met_at (1 + i)) S) (j t) (a t) ((ap (λ n. bit (place e n) row) (right_side st) ∙ b) t)
        (u t) false (cond (u t) false (same_op either op)) (cond (u t) false (same_op both op)) (cond (u t) false (same_op together op)) (cond (u t) false (same_op apart op)))

  bin-case : (op : Op) {i : ℕ} {α β : Term} (st : Stood φ i (bin op α β)) (e : Bool) → unit (bin op α β) ≡ false
      → bit (place e (1 + i)) row ≡ judge e α (1 + i) S → bit (place e (1 + i + size α)) row ≡ judge e β (1 + i + size α) S
      → bit (place e i) row ≡ join (λ a. a.user) op (judge e α (1 + i)) (judge e β (1 + i + size α)) S
  bin-case either {i} {α} {β} st e u a b =
      bin-rule st e u false (no_joint st e (λ t. cond (u t) false false || cond (u t) false false)) a b
      ∙ form-either e (eqb ones 1) (all (met_at i) S) (all (met_at (1 + i)) S) (judge e α (1 + i) S) (judge e β (1 + i + size α) S)
  bin-case both {i} {α} {β} st e u a b =
      bin-rule st e u false (no_joint st e (λ t. cond (u t) false false || cond (u t) false false)) a b
      ∙ form_both e (eqb ones 1) (all (met_at i) S) (all (met_at (1 + i)) S) (judge e α (1 + i) S) (judge e β (1 + i + size α) S)
  bin-case together {i} {α} {β} st e u a b =
      bin-rule st e u (bit (place e i) joint) refl a b
      ∙ form-joint e (eqb ones 1) (all (met_at i) S) (all (met_at (1 + i)) S) (judge e α (1 + i) S) (judge e β (1 + i + size α) S) (bit (place e i) joint) true false refl
      ∙ joint-case st e refl
  bin-case apart {i} {α} {β} st e u a b =
      bin-rule st e u (bit (place e i) joint) refl a b
      ∙ form-joint e (eqb ones 1) (all (met_at i) S) (all (met_at (1 + i)) S) (judge e α (1 + i) S) (judge e β (1 + i + size α) S) (bit (place e i) joint) false true refl
      ∙ joint-case st e refl

  -- every word
  meaning : (ψ : Term) (i : ℕ) → Stood φ i ψ → (e : Bool) → bit (place e i) row ≡ judge e ψ i S
  unfolding table
  meaning everyone i st e = unit-case st e refl
  meaning (role r) i st e = unit-case st e refl
  meaning (set n) i st e = unit-case st e refl
  meaning (¬ᵗ ψ) i st e = unit-case st e (and_split (unit ψ) (well_formed ψ) st.formed).0
  meaning (ψ ⁺) i st e = plus-case st e
  meaning (bin op α β) i st e = by (unit (bin op α β)) refl (meaning α (1 + i) (stood_left st) e) (meaning β (1 + i + size α) (stood_right st) e)
    where
      by : (b : Bool) → unit (bin op α β) ≡ b → bit (place e (1 + i)) row ≡ judge e α (1 + i) S → bit (place e (1 + i + size α)) row ≡ judge e β (1 + i + size α) S
          → bit (place e i) row ≡ judge e (bin op α β) i S
      by true u a b = unit-case st e u
      by false u a b = bin-case op st e u a b ∙ sym (ap (λ c. cond c (single e (met_at i) S) (join (λ x. x.user) op (judge e α (1 + i)) (judge e β (1 + i + size α)) S)) u)

  pub row_is : RowIs φ S row right
  unfolding judged
  row_is = record {
    here = λ e i h. meaning (term_at φ i) i (stood φ F.suited.formed i h) e;
    past = past;
    sided = λ e i h o.
        let st = stood φ F.suited.formed i h in
        F.finished.sided e i (omega (arith, h, rights-length 0 φ))
        (either_mark st true ∙ or_right (is_op either (term_at φ i)) (is_op together (term_at φ i) || is_op apart (term_at φ i)) o)
        ∙ (let k = right-inside (term_at φ i) st o in meaning (term_at φ (get_or (right_sides 0 φ) i 0)) (get_or (right_sides 0 φ) i 0) (stood φ F.suited.formed (get_or (right_sides 0 φ) i 0) k) e);
  }
    where
      past : (e : Bool) (i : ℕ) → size φ ≤ i → i < 32 → bit (place e i) row ≡ false
      past e i h k =
          let masked = F.suited.masked in
          let units = in_both e (marks unit φ) m.units i k masked.units ∙ bit-marks-past unit φ i h in
          let plus = in_both e (marks is_plus φ) m.plus i k masked.plus ∙ bit-marks-past is_plus φ i h in
          let joints = in_both e (bit_or (marks (is_op together) φ) (marks (is_op apart) φ)) m.joint i k masked.joint
          ∙ bit-or i (marks (is_op together) φ) (marks (is_op apart) φ) ∙ ap₂ ◌||◌ (bit-marks-past (is_op together) φ i h) (bit-marks-past (is_op apart) φ i h) in
          F.finished.past e i (omega (arith, h, rights-length 0 φ)) k ∙ F.is_base (place e i)
          ∙ (λ t. ((eqb ones 1 && (bit (place e i) met && units t)) || (bit (1 + place e i) met && plus t)) || unmarked e i k joints t)
          ∙ simp (and-false, or-false)

-- the row of no action
pub empty_row : (φ : Term) (m : Masks) (ops : List ℕ) → Suited φ m ops → RowIs φ [] m.first m.first
unfolding judged
empty_row φ m ops u = record {
  here = λ e i h. at e i h ∙ sym (none e (term_at φ i) i);
  past = λ e i h k. u.masked.first e i k ∙ past e i h;
  sided = λ e i h o. at e i h ∙ sym (none e (term_at φ (get_or (right_sides 0 φ) i 0)) (get_or (right_sides 0 φ) i 0));
}
  where
    none : (e : Bool) (ψ : Term) (i : ℕ) → judge e ψ i [] ≡ e
    none e ψ i = empty_set Action (λ a. a.user) (λ t k a. bit k a.met) e ψ i

    full : (e : Bool) (i : ℕ) → i < size φ → bit i (cond e (2 ^ size φ - 1) 0) ≡ e
    full true i h = bit-ones (size φ) i ∙ lt-ltb i (size φ) h
    full false i h = bit_of_zero i

    past : (e : Bool) (i : ℕ) → size φ ≤ i → bit i (cond e (2 ^ size φ - 1) 0) ≡ false
    past true i h = bit-ones (size φ) i ∙ le-ltb i (size φ) h
    past false i h = bit_of_zero i

    at : (e : Bool) (i : ℕ) → i < size φ → bit (place e i) m.first ≡ e
    at e i h = u.masked.first e i (omega (arith, u.short)) ∙ full e i h
