-- Masks within a mask: halves and rests of them, the walk a, (a - 1) & s, .. that leaves none out, and a mask without its lowest or
-- its highest digit.
use mathlib.Core.Path.{◌≡◌, refl, sym, ap, ap₂, ◌∙◌, subst}
use mathlib.Core.Logic.{◌⊎◌, inl, inr}
use Prim.Native.Nat.{ℕ, zero, suc, ◌+◌, ◌-◌, ◌*◌, ◌/◌, ◌%◌, ◌^◌, ◌≤◌, ◌<◌, min}
use native.Mathlib.Nat.{mod-lt, zero-lt-suc, mod-eq_of_lt}
use native.Mathlib.Omega.{arith}
use lib.Arith.{bin_ind}
use lib.Bits.{bit_and, and_step, and_shr, and_le_l, and_le_r, and_zero_l, and_self, and_mod, and_block}
use lib.Pow.{low}

-- every digit of x is a digit of s
abbrev pub Within : ℕ → ℕ → Type 0
Within x s = bit_and x s ≡ x

pub within-half : (x s : ℕ) → Within x s → Within (x / 2) (s / 2)
within-half x s h = sym (and_shr x s 1) ∙ ap (λ n. n / 2) h

pub within-digit : (x s : ℕ) → Within x s → x % 2 ≤ s % 2
within-digit x s h = omega (arith, and_step x s, mod-lt x (zero-lt-suc 1), within-half x s h)

pub within_le : (x s : ℕ) → Within x s → x ≤ s
within_le x s h = omega (arith, and_le_r x s, h)

-- from the halves
pub within-join : (x s : ℕ) → Within (x / 2) (s / 2) → x % 2 ≤ s % 2 → Within x s
within-join x s h l = omega (arith, and_step x s, h)

-- what a mask has of s is within s
pub and-within : (x s : ℕ) → Within (bit_and x s) s
and-within =
    bin_ind (λ x. (s : ℕ) → Within (bit_and x s) s) (λ s. and_zero_l s)
    (λ x ih s. within-join (bit_and x s) s (subst (λ m. Within m (s / 2)) (sym (and_shr x s 1)) (ih (s / 2))) (omega (arith, and_step x s)))

-- the rest of s
pub rest-half : (x s : ℕ) → Within x s → (s - x) / 2 ≡ s / 2 - x / 2
rest-half x s h = omega (arith, within-digit x s h, within_le (x / 2) (s / 2) (within-half x s h))

pub rest-digit : (x s : ℕ) → Within x s → (s - x) % 2 ≡ s % 2 - x % 2
rest-digit x s h = omega (arith, within-digit x s h, within_le (x / 2) (s / 2) (within-half x s h))

pub rest-within : (x s : ℕ) → Within x s → Within (s - x) s
rest-within =
    bin_ind (λ x. (s : ℕ) → Within x s → Within (s - x) s) (λ s h. let z : s ≡ s - 0 = omega arith in subst (λ m. Within m s) z (and_self s))
    (λ x ih s h. within-join (s - x) s (subst (λ m. Within m (s / 2)) (sym (rest-half x s h)) (ih (s / 2) (within-half x s h))) (omega (arith, rest-digit x s h)))

-- the walk leaves none out: below a, the next one is the largest
pub walk : (a s x : ℕ) → Within a s → Within x s → x < a → x ≤ bit_and (a - 1) s
walk =
    bin_ind (λ a. (s x : ℕ) → Within a s → Within x s → x < a → x ≤ bit_and (a - 1) s) (λ s x h k l. absurd (omega arith))
    (λ a ih s x h k l. step a s x h k l (ih (s / 2) (x / 2) (within-half a s h) (within-half x s k)) (a % 2) refl)
  where
    step : (a s x : ℕ) → Within a s → Within x s → x < a → (x / 2 < a / 2 → x / 2 ≤ bit_and (a / 2 - 1) (s / 2)) → (d : ℕ) → a % 2 ≡ d → x ≤ bit_and (a - 1) s
    step a s x h k l ih zero e =
        let half : (a - 1) / 2 ≡ a / 2 - 1 = omega arith in
        let digit : (a - 1) % 2 ≡ 1 = omega arith in
        let split = and_step (a - 1) s ∙ ap₂ (λ (p q : ℕ). bit_and p (s / 2) * 2 + min q (s % 2)) half digit in
        let m = ih (omega arith) in
        omega (arith, within-digit x s k)
    step a s x h k l ih (suc zero) e =
        let half : (a - 1) / 2 ≡ a / 2 = omega arith in
        let split = and_step (a - 1) s ∙ ap (λ (p : ℕ). bit_and p (s / 2) * 2 + min ((a - 1) % 2) (s % 2)) half in
        omega (arith, within-half a s h)
    step a s x h k l ih (suc (suc d)) e = omega (arith, mod-lt a (zero-lt-suc 1))

-- and goes down
pub walk_down : (a s : ℕ) → 0 < a → bit_and (a - 1) s < a
walk_down a s h = omega (arith, and_le_l (a - 1) s)

-- from what the halves are
within_of : (x s : ℕ) {y h : ℕ} → x / 2 ≡ y → s / 2 ≡ h → Within y h → x % 2 ≤ s % 2 → Within x s
within_of x s p q w l = within-join x s (subst (λ n. Within n (s / 2)) (sym p) (subst (Within _) (sym q) w)) l

half_of : (x s : ℕ) {h : ℕ} → s / 2 ≡ h → Within x s → Within (x / 2) h
half_of x s q w = subst (Within (x / 2)) q (within-half x s w)

-- t is `high` with one digit more, below its others: what is within t is within `high` but for that digit
pub record Lowest (t high : ℕ) : Type 0 where
  pub less : high < t
  pub plain : (x : ℕ) → Within x high → Within x t
  pub more : (x : ℕ) → Within x high → Within (x + (t - high)) t
  pub split : (x : ℕ) → Within x t → (y : ℕ) × Within y high × ((x ≡ y) ⊎ (x ≡ y + (t - high)))

lowest_odd : (t : ℕ) → t % 2 ≡ 1 → Lowest t (t / 2 * 2)
lowest_odd t o = record {
  less = omega arith;
  plain = λ x w. within_of x t refl refl (half_of x (t / 2 * 2) half w) (omega (arith, mod-lt x (zero-lt-suc 1)));
  more = λ x w. let e : (x + (t - t / 2 * 2)) / 2 ≡ x / 2 = omega (arith, within-digit x (t / 2 * 2) w) in
      within_of (x + (t - t / 2 * 2)) t e refl (half_of x (t / 2 * 2) half w) (omega (arith, mod-lt (x + (t - t / 2 * 2)) (zero-lt-suc 1)));
  split = λ x w. go x w (x % 2) refl;
}
  where
    half : t / 2 * 2 / 2 ≡ t / 2
    half = omega arith

    go : (x : ℕ) → Within x t → (d : ℕ) → x % 2 ≡ d → (y : ℕ) × Within y (t / 2 * 2) × ((x ≡ y) ⊎ (x ≡ y + (t - t / 2 * 2)))
    go x w zero e = (x, within_of x (t / 2 * 2) refl half (within-half x t w) (omega arith), inl refl)
    go x w (suc d) e =
        let p : (x - 1) / 2 ≡ x / 2 = omega (arith, mod-lt x (zero-lt-suc 1)) in
        let q : x ≡ x - 1 + (t - t / 2 * 2) = omega arith in
        (x - 1, within_of (x - 1) (t / 2 * 2) p half (within-half x t w) (omega (arith, mod-lt x (zero-lt-suc 1))), inr q)

lowest_even : (t h : ℕ) → t % 2 ≡ 0 → Lowest (t / 2) h → Lowest t (h * 2)
lowest_even t h o l = record {
  less = omega (arith, l.less);
  plain = λ x w. within_of x t refl refl (l.plain (x / 2) (half_of x (h * 2) half w)) (omega (arith, within-digit x (h * 2) w));
  more = λ x w. let e : (x + (t - h * 2)) / 2 ≡ x / 2 + (t / 2 - h) = omega (arith, l.less) in
      within_of (x + (t - h * 2)) t e refl (l.more (x / 2) (half_of x (h * 2) half w)) (omega (arith, within-digit x (h * 2) w, l.less));
  split = λ x w. let (y, v, c) = l.split (x / 2) (within-half x t w) in
      let e : y * 2 / 2 ≡ y = omega arith in
      (y * 2, within_of (y * 2) (h * 2) e half v (omega arith), twice x y w c);
}
  where
    half : h * 2 / 2 ≡ h
    half = omega arith

    twice : (x y : ℕ) → Within x t → (x / 2 ≡ y) ⊎ (x / 2 ≡ y + (t / 2 - h)) → (x ≡ y * 2) ⊎ (x ≡ y * 2 + (t - h * 2))
    twice x y w (inl e) = inl (omega (arith, within-digit x t w))
    twice x y w (inr e) = inr (omega (arith, within-digit x t w, l.less))

pub lowest : (t : ℕ) → 0 < t → Lowest t (bit_and t (t - 1))
lowest = bin_ind (λ t. 0 < t → Lowest t (bit_and t (t - 1))) (λ h. absurd (omega arith)) (λ t ih h. step t h ih (t % 2) refl)
  where
    step : (t : ℕ) → 0 < t → (0 < t / 2 → Lowest (t / 2) (bit_and (t / 2) (t / 2 - 1))) → (d : ℕ) → t % 2 ≡ d → Lowest t (bit_and t (t - 1))
    step t h ih zero e =
        let half : (t - 1) / 2 ≡ t / 2 - 1 = omega arith in
        let split = and_step t (t - 1) ∙ ap (λ (p : ℕ). bit_and (t / 2) p * 2 + min (t % 2) ((t - 1) % 2)) half in
        let is : bit_and (t / 2) (t / 2 - 1) * 2 ≡ bit_and t (t - 1) = omega arith in
        subst (Lowest t) is (lowest_even t (bit_and (t / 2) (t / 2 - 1)) e (ih (omega arith)))
    step t h ih (suc zero) e =
        let half : (t - 1) / 2 ≡ t / 2 = omega arith in
        let split = and_step t (t - 1) ∙ ap (λ (p : ℕ). bit_and (t / 2) p * 2 + min (t % 2) ((t - 1) % 2)) half in
        let is : t / 2 * 2 ≡ bit_and t (t - 1) = omega (arith, and_self (t / 2)) in
        subst (Lowest t) is (lowest_odd t e)
    step t h ih (suc (suc d)) e = absurd (omega (arith, mod-lt t (zero-lt-suc 1)))

-- a mask with one digit more, above its others: what is within it and below that digit is within the mask
module _ (j t : ℕ) (h : t < 2 ^ j) where
  pub within_more : (x : ℕ) → x < 2 ^ j → Within x t → Within x (2 ^ j + t)
  within_more x l w =
      let p : 0 * 2 ^ j + x ≡ x = omega arith in
      let q : 1 * 2 ^ j + t ≡ 2 ^ j + t = omega arith in
      let b = and_block j 0 1 x t l h in
      sym (ap₂ bit_and p q) ∙ b ∙ (let z : bit_and 0 1 * 2 ^ j + bit_and x t ≡ bit_and x t = omega (arith, and_zero_l 1) in z) ∙ w

  pub within-less : (x : ℕ) → x < 2 ^ j → Within x (2 ^ j + t) → Within x t
  within-less x l w =
      let q : 2 ^ j + t ≡ 1 * 2 ^ j + t = omega arith in
      let m = mod-eq_of_lt l in
      sym (and_mod x (2 ^ j + t) j ∙ ap₂ bit_and m (ap (λ n. n % 2 ^ j) q ∙ low 1 j h)) ∙ ap (λ n. n % 2 ^ j) w ∙ m
