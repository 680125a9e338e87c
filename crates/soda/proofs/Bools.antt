-- Small laws on Booleans: a test's two cases, conjunction and disjunction taken apart, and tests of numbers.
use mathlib.Core.Path.{◌≡◌, refl, sym, subst}
use mathlib.Core.Logic.{◌⊎◌, inl, inr}
use mathlib.Core.Bool.{Bool, true, false, So, not, ◌&&◌, ◌||◌, false≢true, true≢false}
use Prim.Native.Nat.{ℕ, ◌≤◌, ◌<◌}
use native.Mathlib.Omega.{arith}
use lib.Dec.{T, ltb, eqb, ltb→lt, lt→ltb, nltb→le, eqb→eq, eqb_refl}

-- any goal from a test that fails and passes
pub never {ℓ} : {P : Type ℓ} → So false → P
never e = absurd (false≢true e)

-- any goal by the two cases of a test
pub by_test {ℓ} : {P : Type ℓ} (b : Bool) → (b ≡ true → P) → (b ≡ false → P) → P
by_test true f g = f refl
by_test false f g = g refl

pub not_so : (b : Bool) → (So b → ⊥) → b ≡ false
not_so true f = absurd (f refl)
not_so false f = refl

-- two tests that pass together are equal
pub same_test : (a b : Bool) → (So a → So b) → (So b → So a) → a ≡ b
same_test true b f g = sym (f refl)
same_test false true f g = g refl
same_test false false f g = refl

pub and_split : (a b : Bool) → So (a && b) → So a × So b
and_split true b e = (refl, e)
and_split false b e = never e

pub and-join : (a b : Bool) → So a → So b → So (a && b)
and-join true b p q = q
and-join false b p q = p

pub or_split : (a b : Bool) → So (a || b) → So a ⊎ So b
or_split true b e = inl refl
or_split false b e = inr e

pub or_left : (a b : Bool) → So a → So (a || b)
or_left true b e = refl
or_left false b e = never e

pub or_right : (a b : Bool) → So b → So (a || b)
or_right true b e = refl
or_right false b e = e

-- a test as the library states it, and as a path
so_T : (b : Bool) → So b → T b
so_T true e = tt
so_T false e = never e

T-so : (b : Bool) → T b → So b
T-so true t = refl
T-so false t = absurd t

no_T : (b : Bool) → b ≡ false → T (not b)
no_T true e = true≢false e
no_T false e = tt

pub lt_so : (m n : ℕ) → m < n → So (ltb m n)
lt_so m n h = T-so (ltb m n) (lt→ltb m n h)

pub so_lt : (m n : ℕ) → So (ltb m n) → m < n
so_lt m n e = ltb→lt m n (so_T (ltb m n) e)

no_lt : (m n : ℕ) → ltb m n ≡ false → n ≤ m
no_lt m n e = nltb→le m n (no_T (ltb m n) e)

pub eq_so : (m n : ℕ) → m ≡ n → So (eqb m n)
eq_so m n e = subst (λ (k : ℕ). So (eqb m k)) e (T-so (eqb m m) (eqb_refl m))

pub so_eq : (m n : ℕ) → So (eqb m n) → m ≡ n
so_eq m n e = eqb→eq m n (so_T (eqb m n) e)

pub eqb_swap : (m n : ℕ) → eqb m n ≡ eqb n m
eqb_swap m n = same_test (eqb m n) (eqb n m) (λ e. eq_so n m (sym (so_eq m n e))) (λ e. eq_so m n (sym (so_eq n m e)))

-- the three cases of two numbers
pub data Order (m n : ℕ) : Type 0 where
  less : m < n → Order m n
  same : m ≡ n → Order m n
  more : n < m → Order m n

pub order : (m n : ℕ) → Order m n
order m n = by_test (ltb m n) (λ p. less (so_lt m n p))
    λ p. by_test (ltb n m) (λ q. more (so_lt n m q)) λ q. same (omega (arith, no_lt m n p, no_lt n m q))

-- the two cases of two numbers
pub lt_or_le : (m n : ℕ) → (m < n) ⊎ (n ≤ m)
lt_or_le m n = by_test (ltb m n) (λ p. inl (so_lt m n p)) (λ p. inr (no_lt m n p))
