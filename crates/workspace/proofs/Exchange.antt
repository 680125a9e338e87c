-- Sets with the same actions: one action for another that is alike it, and one action more on both.
use mathlib.Core.Path.{◌≡◌, refl, sym, ◌∙◌, ap, ap₂, subst, fun_ext}
use mathlib.Core.Bool.{Bool, true, false, So, ◌&&◌, cond, true≢false}
use mathlib.Core.List.Perm
use mathlib.Core.List.{List, [], ◌∷◌, ◌++◌, map, append_assoc, Perm}
use mathlib.Core.Logic.{⊎_elim}
use Prim.Native.Nat.{ℕ, zero, suc, ◌+◌, ◌-◌, ◌*◌, ◌/◌, ◌%◌, ◌^◌, ◌≤◌, ◌<◌, min}
use native.Mathlib.Nat.{mod-lt, zero-lt-suc, pow-suc}
use native.Mathlib.Omega.{arith}
use lib.Arith.{bin_ind}
use lib.Bits.{bit_and, bit_or, and_step, and_self, and_comm, or_lt}
use lib.Dec.{eqb, ltb}
use lib.ListN.{length, get_or, get_or-append}
use lib.Seq.{get_or-append-add}
use lib.Pow.{pow_mono, pow-lt}
use Rattle.soda.specs.Bits.{bit, number}
use Rattle.soda.specs.Lists.{range}
use Rattle.soda.specs.Terms.{Term, size, term_at}
use Rattle.soda.proofs.Bools.{not_so, and_split, and-join, or_split, so_lt, so_eq, eq_so}
use Rattle.soda.proofs.Bits.{bit-suc, bit_of_zero, even, odd}
use Rattle.soda.proofs.Orders.{order_plays_no_part, perm_last}
use Rattle.rows.specs.Twins.{spare_of, first_of, twin_of}
use Rattle.rows.proofs.Digits.{bit-and, bit-or, bit_power}
use Rattle.workspace.specs.Workspace.{select, judged, row_of}
use Rattle.workspace.specs.Private.{AlikePlaces, Twin, itself, other_set, other_action}
use Rattle.soda.specs.declared.Action.{Action}
use Rattle.workspace.proofs.Submask.{Within, within-half, and-within, rest-half, rest-digit}
use Rattle.workspace.proofs.Select.{is_odd, is_even, select-next}

-- ── digits of what t lacks ──
-- a digit of the rest is one of s and none of x
rest-bit : (k x s : ℕ) → Within x s → So (bit k (s - x)) → So (bit k s) × (bit k x ≡ false)
rest-bit zero x s w o =
    let e = odd (s - x) o in
    let d = rest-digit x s w in
    (is_odd s (omega (arith, mod-lt s (zero-lt-suc 1))), is_even x (omega (arith, mod-lt s (zero-lt-suc 1))))
rest-bit (suc k) x s w o =
    let (p, q) = rest-bit k (x / 2) (s / 2) (within-half x s w) (sym (bit-suc k (s - x) ∙ ap (bit k) (rest-half x s w)) ∙ o) in
    (bit-suc k s ∙ p, bit-suc k x ∙ q)

-- a digit of what is left of a without t's is one of a and none of t
pub lacks : (k a t : ℕ) → So (bit k (a - bit_and a t)) → So (bit k a) × (bit k t ≡ false)
lacks k a t o =
    let w : Within (bit_and a t) a = subst (λ n. Within n a) (and_comm t a) (and-within t a) in
    let (p, q) = rest-bit k (bit_and a t) a w o in
    (p, not_so (bit k t) (λ b. true≢false (sym (and-join (bit k a) (bit k t) p b) ∙ sym (bit-and k a t) ∙ q)))

-- the lowest digit by itself
pub record Digit (n d : ℕ) : Type 0 where
  pub place : ℕ
  pub here : So (bit place n)
  pub is : d ≡ 2 ^ place

pub lowest_digit : (n : ℕ) → 0 < n → Digit n (n - bit_and n (n - 1))
lowest_digit = bin_ind (λ n. 0 < n → Digit n (n - bit_and n (n - 1))) (λ h. absurd (omega arith)) (λ n ih h. step n h ih (n % 2) refl)
  where
    step : (n : ℕ) → 0 < n → (0 < n / 2 → Digit (n / 2) (n / 2 - bit_and (n / 2) (n / 2 - 1))) → (d : ℕ) → n % 2 ≡ d → Digit n (n - bit_and n (n - 1))
    step n h ih zero e =
        let half : (n - 1) / 2 ≡ n / 2 - 1 = omega arith in
        let split = and_step n (n - 1) ∙ ap (λ (p : ℕ). bit_and (n / 2) p * 2 + min (n % 2) ((n - 1) % 2)) half in
        let g = ih (omega arith) in
        record { place = suc g.place; here = bit-suc g.place n ∙ g.here; is = omega (arith, g.is, pow-suc 2 g.place) }
    step n h ih (suc zero) e =
        let half : (n - 1) / 2 ≡ n / 2 = omega arith in
        let split = and_step n (n - 1) ∙ ap (λ (p : ℕ). bit_and (n / 2) p * 2 + min (n % 2) ((n - 1) % 2)) half in
        record { place = 0; here = is_odd n e; is = omega (arith, and_self (n / 2)) }
    step n h ih (suc (suc d)) e = absurd (omega (arith, mod-lt n (zero-lt-suc 1)))

-- t with the lowest place of alike that it lacks
twin-action : (alike top t twin : ℕ) → (spare_of alike t ≡ 0 → ⊥) → Twin alike top t twin (t + first_of (spare_of alike t))
twin-action alike top t twin h =
    let spare : ℕ = alike - bit_and alike t in
    let d = lowest_digit spare (omega arith) in
    let (p, q) = lacks d.place alike t d.here in
    let e : 2 ^ d.place + t ≡ t + (spare - bit_and spare (spare - 1)) = omega (arith, d.is) in
    subst (Twin alike top t twin) e (other_action d.place p q)

-- the twin that the code finds, which is not behind the set
pub twin-found : (alike top t twin : ℕ) → top ≤ 4096 → t < top → alike < top → (twin_of alike top t twin ≤ top + t) × Twin alike top t twin (twin_of alike top t twin)
twin-found alike top t twin few h k = by (eqb (spare_of alike t) 0) refl (ltb twin t) refl
  where
    is : (r : ℕ) → r ≤ top + t → Twin alike top t twin r → (r % 2 ^ 64 ≤ top + t) × Twin alike top t twin (r % 2 ^ 64)
    is r b w = let z : r ≡ r % 2 ^ 64 = omega arith in (omega arith, subst (Twin alike top t twin) z w)

    by : (b : Bool) → eqb (spare_of alike t) 0 ≡ b → (l : Bool) → ltb twin t ≡ l
        → let r = cond b (top + cond l twin t) (t + first_of (spare_of alike t)) % 2 ^ 64 in (r ≤ top + t) × Twin alike top t twin r
    by true e true l = let b = so_lt twin t l in is (top + twin) (omega arith) (other_set b)
    by true e false l = is (top + t) (omega arith) itself
    by false e b l = is (t + first_of (spare_of alike t)) (omega arith) (twin-action alike top t twin (λ z. true≢false (sym (eq_so (spare_of alike t) 0 z) ∙ e)))

-- ── the actions of twins ──
module _ {A : Type 0} where
  -- t's actions before and behind place k, which t lacks
  record Gap (l : List A) (k t : ℕ) (d : A) : Type 0 where
    pub front : List A
    pub back : List A
    pub without : select t l ≡ front ++ back
    pub with_it : select (2 ^ k + t) l ≡ front ++ (get_or l k d ∷ back)

  gap : (l : List A) (k t : ℕ) (d : A) → k < length l → bit k t ≡ false → Gap l k t d
  gap [] k t d h n = absurd (omega arith)
  gap (x ∷ l) zero t d h n =
      let e = even t n in
      let half : (1 + t) / 2 ≡ t / 2 = omega arith in
      record {
        front = [];
        back = select (t / 2) l;
        without = ap (λ b. cond b (x ∷ select (t / 2) l) (select (t / 2) l)) n;
        with_it = ap₂ (λ b m. cond b (x ∷ select m l) (select m l)) (is_odd (1 + t) (omega arith)) half;
      }
  gap (x ∷ l) (suc k) t d h n =
      let p = pow-suc 2 k in
      let same : (2 ^ suc k + t) / 1 % 2 ≡ t / 1 % 2 = omega arith in
      let half : (2 ^ suc k + t) / 2 ≡ 2 ^ k + t / 2 = omega arith in
      let g = gap l k (t / 2) d (omega arith) (sym (bit-suc k t) ∙ n) in
      record {
        front = cond (bit 0 t) (x ∷ g.front) g.front;
        back = g.back;
        without = ap (λ m. cond (bit 0 t) (x ∷ m) m) g.without ∙ out (bit 0 t) g.front g.back;
        with_it = ap₂ (λ b m. cond (eqb b 1) (x ∷ select m l) (select m l)) same half ∙ ap (λ m. cond (bit 0 t) (x ∷ m) m) g.with_it ∙ out (bit 0 t) g.front (get_or l k d ∷ g.back);
      }
    where
      out : (b : Bool) (u v : List A) → cond b (x ∷ (u ++ v)) (u ++ v) ≡ cond b (x ∷ u) u ++ v
      out true u v = refl
      out false u v = refl

pub twin_perm : (l : List Action) (j t twin alike r : ℕ) → j < length l → t < 2 ^ j → AlikePlaces l j alike → Perm (select twin l) (select t l)
    → Twin alike (2 ^ j) t twin r → Perm (select r l) (select (2 ^ j + t) l)
twin_perm l j t twin alike r h k a p itself = Perm.refl (select (2 ^ j + t) l)
twin_perm l j t twin alike r h k a p (other_set b) =
    subst (λ m. Perm m (select (2 ^ j + t) l)) (sym (select-next l j twin (record { user = 0; met = 0 }) h (omega arith)))
    (subst (λ m. Perm (select twin l ++ (get_or l j (record { user = 0; met = 0 }) ∷ [])) m) (sym (select-next l j t (record { user = 0; met = 0 }) h k))
    (Perm.append_right (get_or l j (record { user = 0; met = 0 }) ∷ []) p))
twin_perm l j t twin alike r h k a p (other_action i b n) = subst (λ m. Perm m (select (2 ^ j + t) l)) (sym g.with_it) (subst (Perm (g.front ++ (it ∷ g.back))) behind (perm_last it g.front g.back))
  where
    at : (i < j) × (get_or l i (record { user = 0; met = 0 }) ≡ get_or l j (record { user = 0; met = 0 }))
    at = a.same i b

    g : Gap l i t (record { user = 0; met = 0 })
    g = gap l i t (record { user = 0; met = 0 }) (omega (arith, at.0)) n

    it : Action
    it = get_or l i (record { user = 0; met = 0 })

    behind : g.front ++ (g.back ++ (it ∷ [])) ≡ select (2 ^ j + t) l
    behind =
        sym (append_assoc g.front g.back (it ∷ [])) ∙ ap₂ (λ m x. m ++ (x ∷ [])) (sym g.without) at.1
        ∙ sym (select-next l j t (record { user = 0; met = 0 }) h k)

-- ── their rows ──
module _ (φ : Term) (k l : List Action) (p : Perm k l) where
  pub judged-twin : (e : Bool) (i : ℕ) → judged e φ k i ≡ judged e φ l i
  unfolding judged
  judged-twin e i = order_plays_no_part Action (λ a. a.user) (λ t n a. bit n a.met) e (term_at φ i) i k l p

pub row-twin : (e : Bool) (φ : Term) (l : List Action) (x s : ℕ) → Perm (select x l) (select s l) → row_of e φ l x ≡ row_of e φ l s
unfolding row_of
row-twin e φ l x s p = ap (λ f. number (map f (range 0 (size φ)))) (fun_ext (judged-twin φ (select x l) (select s l) p e))

-- ── the places of alike actions ──
-- equal by both fields
pub alike_is : (a b : Action) → So (eqb a.user b.user && eqb a.met b.met) → a ≡ b
alike_is a b o =
    let (p, q) = and_split (eqb a.user b.user) (eqb a.met b.met) o in
    ap₂ (λ u m. record { user = u; met = m }) (so_eq a.user b.user p) (so_eq a.met b.met q)

-- those before k
pub record Finding (l : List Action) (a : Action) (k r : ℕ) : Type 0 where
  pub below : r < 2 ^ k
  pub same : (i : ℕ) → So (bit i r) → (i < k) × (get_or l i (record { user = 0; met = 0 }) ≡ a)

module _ (l : List Action) (a : Action) where
  pub find_begin : Finding l a 0 0
  find_begin = record { below = omega arith; same = λ i o. absurd (true≢false (sym o ∙ bit_of_zero i)) }

  module _ (k r : ℕ) (f : Finding l a k r) where
    pub find_skip : Finding l a (k + 1) r
    find_skip = record {
      below = omega (arith, f.below, pow_mono {i = k} {j = k + 1} (omega arith));
      same = λ i o. let q = f.same i o in (omega (arith, q.0), q.1);
    }

    pub find_take : get_or l k (record { user = 0; met = 0 }) ≡ a → Finding l a (k + 1) (bit_or r (2 ^ k))
    find_take e = record {
      below = or_lt (k + 1) r (2 ^ k) (omega (arith, f.below, pow_mono {i = k} {j = k + 1} (omega arith))) (pow-lt (omega arith));
      same = λ i b. ⊎_elim (old i) (new i) (or_split (bit i r) (bit i (2 ^ k)) (sym (bit-or i r (2 ^ k)) ∙ b));
    }
      where
        old : (i : ℕ) → So (bit i r) → (i < k + 1) × (get_or l i (record { user = 0; met = 0 }) ≡ a)
        old i b = let q = f.same i b in (omega (arith, q.0), q.1)

        new : (i : ℕ) → So (bit i (2 ^ k)) → (i < k + 1) × (get_or l i (record { user = 0; met = 0 }) ≡ a)
        new i b = let z : i ≡ k = so_eq i k (sym (bit_power i k) ∙ b) in (omega arith, ap (λ n. get_or l n (record { user = 0; met = 0 })) z ∙ e)

  pub find_end : (k r : ℕ) → k ≡ length l → Finding l a k r → AlikePlaces (l ++ (a ∷ [])) (length l) r
  find_end k r e f = record {
    below = subst (λ n. r < 2 ^ n) e f.below;
    same = λ i o.
        let q = f.same i o in
        let b : i < length l = omega (arith, q.0) in
        let z : length l ≡ length l + 0 = omega arith in (
          b,
          get_or-append l (a ∷ []) _ i b ∙ q.1
              ∙ sym (ap (λ n. get_or (l ++ (a ∷ [])) n (record { user = 0; met = 0 })) z ∙ get_or-append-add l (a ∷ []) 0 (record { user = 0; met = 0 })),
        );
  }
