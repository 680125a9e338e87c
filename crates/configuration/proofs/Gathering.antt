-- A set of users put together one by one, in order.
use mathlib.Core.Path.{◌≡◌, refl, sym, ap, ap₂, ◌∙◌}
use mathlib.Core.Bool.{Bool, true, false, So, ◌&&◌, cond}
use mathlib.Core.List.{List, [], ◌∷◌, ◌++◌, map, map-append}
use Prim.Native.Nat.{ℕ, zero, suc, ◌+◌, ◌*◌, ◌^◌, ◌≤◌, ◌<◌}
use native.Mathlib.Nat.{pow-suc}
use native.Mathlib.Numerals.{add-one}
use native.Mathlib.Omega.{arith}
use lib.Bits.{bit_and, and_step}
use lib.Dec.{eqb, eqb-suc-zero}
use lib.ListN.{length, get_or, get_or-eq_default}
use Rattle.soda.specs.Bits.{bit, number, set_bit}
use Rattle.soda.specs.Lists.{range}
use Rattle.soda.proofs.Bools.{never}
use Rattle.soda.proofs.Bits.{bit-number, half-digit}
use Rattle.configuration.specs.Permitted.{behind_last, gathered, with_candidate}

-- ── one more at the end ──
range-more : (i n : ℕ) → range i (suc n) ≡ range i n ++ ((i + n) ∷ [])
range-more i zero = let e : i ≡ i + 0 = omega arith in ap (λ (k : ℕ). k ∷ []) e
range-more i (suc n) =
    let e : suc i + n ≡ i + suc n = omega arith in
    ap (λ (l : List ℕ). i ∷ l) (range-more (suc i) n ∙ ap (λ (k : ℕ). range (suc i) n ++ (k ∷ [])) e)

pub map_more : {A : Type 0} (f : ℕ → A) (n : ℕ) → map f (range 0 (n + 1)) ≡ map f (range 0 n) ++ (f n ∷ [])
map_more f n =
    let e : 0 + n ≡ n = omega arith in
    ap (λ (k : ℕ). map f (range 0 k)) (add-one n) ∙ ap (map f) (range-more 0 n) ∙ map-append f (range 0 n) ((0 + n) ∷ [])
    ∙ ap (λ (k : ℕ). map f (range 0 n) ++ (f k ∷ [])) e

number_more : (l : List Bool) (b : Bool) → number (l ++ (b ∷ [])) ≡ number l + cond b (2 ^ length l) 0
number_more [] true = refl
number_more [] false = refl
number_more (x ∷ l) true = let k = number_more l true in omega (arith, k, pow-suc 2 (length l))
number_more (x ∷ l) false = let k = number_more l false in omega (arith, k)

behind_more : (l : List Bool) (b : Bool) → behind_last (l ++ (b ∷ [])) ≡ cond b (suc (length l)) (behind_last l)
behind_more [] true = refl
behind_more [] false = refl
behind_more (x ∷ l) true = rw (behind_more l true, eqb-suc-zero (length l))
behind_more (x ∷ l) false = rw (behind_more l false)

-- a user who is not one of them leaves them as they are ..
pub gathered-without : (l : List Bool) → gathered (l ++ (false ∷ [])) ≡ gathered l
gathered-without l =
    let e : number l + 0 ≡ number l = omega arith in
    ap₂ (λ (n k : ℕ). record { users = n; behind = k }) (number_more l false ∙ e) (behind_more l false)

-- .. and one who is stands behind them
pub gathered_with : (l : List Bool) → gathered (l ++ (true ∷ [])) ≡ with_candidate (gathered l) (length l)
unfolding set_bit
gathered_with l =
    let free : bit (length l) (number l) ≡ false = bit-number l (length l) ∙ get_or-eq_default l false (omega arith) in
    ap₂ (λ (n k : ℕ). record { users = n; behind = k }) (number_more l true ∙ rw free) (behind_more l true ∙ sym (add-one (length l)))

-- ── what they are ──
pub behind_most : (l : List Bool) → behind_last l ≤ length l
behind_most [] = omega arith
behind_most (b ∷ l) = go (behind_last l) b (behind_most l)
  where
    go : (k : ℕ) (b : Bool) → k ≤ length l → cond (eqb k 0) (cond b 1 0) (suc k) ≤ suc (length l)
    go zero true h = omega arith
    go zero false h = omega arith
    go (suc k) b h = rw (eqb-suc-zero k) (omega arith)

-- each of them stands before that place ..
pub before_last : (l : List Bool) (k : ℕ) → So (get_or l k false) → k < behind_last l
before_last [] k h = never h
before_last (b ∷ l) zero h = go (behind_last l) b h
  where
    go : (k : ℕ) (b : Bool) → So b → 0 < cond (eqb k 0) (cond b 1 0) (suc k)
    go zero true h = omega arith
    go zero false h = never h
    go (suc k) b h = rw (eqb-suc-zero k) (omega arith)
before_last (b ∷ l) (suc k) h = go (behind_last l) (before_last l k h)
  where
    go : (n : ℕ) → k < n → suc k < cond (eqb n 0) (cond b 1 0) (suc n)
    go zero h = absurd (omega arith)
    go (suc n) h = rw (eqb-suc-zero n) (omega arith)

-- .. and the last one right before it
pub is_last : (l : List Bool) (k : ℕ) → behind_last l ≡ suc k → So (get_or l k false)
is_last [] k h = absurd (omega arith)
is_last (b ∷ l) k h = go (behind_last l) b k (is_last l) h
  where
    go : (n : ℕ) (b : Bool) (k : ℕ) → ((j : ℕ) → n ≡ suc j → So (get_or l j false)) → cond (eqb n 0) (cond b 1 0) (suc n) ≡ suc k → So (get_or (b ∷ l) k false)
    go zero true zero f h = refl
    go zero true (suc k) f h = absurd (omega arith)
    go zero false k f h = absurd (omega arith)
    go (suc n) b zero f h = let e : suc (suc n) ≡ 1 = rw (eqb-suc-zero n) at h in absurd (omega arith)
    go (suc n) b (suc k) f h = let e : suc (suc n) ≡ suc (suc k) = rw (eqb-suc-zero n) at h in f k (omega arith)

-- ── users past whom nobody is ──
module _ (f : ℕ → Bool) where
  pub number_short : (i k n : ℕ) → k ≤ n → ((u : ℕ) → i + k ≤ u → f u ≡ false) → number (map f (range i n)) ≡ number (map f (range i k))
  number_short i zero zero h z = refl
  number_short i zero (suc n) h z = rw (z i (omega arith), number_short (suc i) zero n (omega arith) (λ u l. z u (omega arith)))
  number_short i (suc k) zero h z = absurd (omega arith)
  number_short i (suc k) (suc n) h z = ap (λ (m : ℕ). cond (f i) 1 0 + 2 * m) (number_short (suc i) k n (omega arith) (λ u l. z u (omega arith)))

  pub behind-short : (i k n : ℕ) → k ≤ n → ((u : ℕ) → i + k ≤ u → f u ≡ false) → behind_last (map f (range i n)) ≡ behind_last (map f (range i k))
  behind-short i zero zero h z = refl
  behind-short i zero (suc n) h z = rw (z i (omega arith), behind-short (suc i) zero n (omega arith) (λ u l. z u (omega arith)))
  behind-short i (suc k) zero h z = absurd (omega arith)
  behind-short i (suc k) (suc n) h z =
      ap (λ (m : ℕ). cond (eqb m 0) (cond (f i) 1 0) (suc m)) (behind-short (suc i) k n (omega arith) (λ u l. z u (omega arith)))

-- ── users who are in two sets ──
and-digit : (p q : Bool) (m n : ℕ) → bit_and (cond p 1 0 + 2 * m) (cond q 1 0 + 2 * n) ≡ cond (q && p) 1 0 + 2 * bit_and m n
and-digit true true m n = and_step (1 + 2 * m) (1 + 2 * n) ∙ rw (half-digit true m, half-digit true n) (omega arith)
and-digit true false m n = and_step (1 + 2 * m) (0 + 2 * n) ∙ rw (half-digit true m, half-digit false n) (omega arith)
and-digit false true m n = and_step (0 + 2 * m) (1 + 2 * n) ∙ rw (half-digit false m, half-digit true n) (omega arith)
and-digit false false m n = and_step (0 + 2 * m) (0 + 2 * n) ∙ rw (half-digit false m, half-digit false n) (omega arith)

pub number-and : {A : Type 0} (f g : A → Bool) (l : List A) → bit_and (number (map f l)) (number (map g l)) ≡ number (map (λ x. g x && f x) l)
number-and f g [] = refl
number-and f g (x ∷ l) = and-digit (f x) (g x) (number (map f l)) (number (map g l)) ∙ ap (λ (n : ℕ). cond (g x && f x) 1 0 + 2 * n) (number-and f g l)
