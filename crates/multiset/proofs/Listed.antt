-- The users of a multiset, each as often as it occurs.
use Rattle.std.specs.Prelude.{sum}
use Rattle.std.proofs.lemmas.List.Sums.{sum_by-cons}
use mathlib.Core.Path.{◌≡◌, refl, sym, ap, ◌∙◌}
use mathlib.Core.Bool.{Bool, So}
use mathlib.Core.List.{List, [], ◌∷◌, ◌++◌, map, map-append}
use Prim.Native.Nat.{ℕ, zero, suc, ◌+◌, ◌≤◌, ◌<◌}
use native.Mathlib.Nat.{zero-add}
use native.Mathlib.Omega.{arith}
use lib.Dec.{eqb}
use lib.ListN.{length, replicate, length-append, length-replicate}
use borrow.Author.Tests.{ne_eqb}
use Rattle.soda.specs.Lists.{all}
use Rattle.soda.proofs.Splits.{split_append, all_parts, all_replicate}
use Rattle.configuration.specs.Configurations.{is_zero}
use Rattle.multiset.specs.MultisetTest.{total, listed}

pub listed-length : (u : ℕ) (l : List ℕ) → length (listed u l) ≡ total l
listed-length u [] = refl
listed-length u (c ∷ l) = length-append (replicate c u) (listed (suc u) l) ∙ omega (arith, length-replicate {A = ℕ} c u, listed-length (suc u) l)

-- the total is std's sum
pub total-is-sum : (l : List ℕ) → total l ≡ sum l
total-is-sum [] = refl
total-is-sum (c ∷ l) = ap (λ (n : ℕ). c + n) (total-is-sum l) ∙ sym (sum_by-cons (λ (x : ℕ). x) c l)

pub listed-all : (f : ℕ → Bool) (n u : ℕ) (l : List ℕ) → u + length l ≤ n → ((v : ℕ) → u ≤ v → v < n → So (f v)) → So (all f (listed u l))
listed-all f n u [] h k = refl
listed-all f n u (c ∷ l) h k =
    all_parts f (split_append (replicate c u) (listed (suc u) l)) (all_replicate f c u (k u (omega arith) (omega arith)))
    (listed-all f n (suc u) l (omega arith) (λ v p q. k v (omega arith) q))

-- a total is zero where each count is; then nobody is listed
pub total-zero : (l : List ℕ) → all is_zero l ≡ eqb (total l) 0
total-zero [] = refl
total-zero (zero ∷ l) = total-zero l ∙ ap (λ (n : ℕ). eqb n 0) (sym (zero-add (total l)))
total-zero (suc c ∷ l) = rw (ne_eqb (suc c) 0 (omega arith), ne_eqb (suc c + total l) 0 (omega arith))

pub listed-none : (u : ℕ) (l : List ℕ) → total l ≡ 0 → listed u l ≡ []
listed-none u [] e = refl
listed-none u (zero ∷ l) e = listed-none (suc u) l (omega arith)
listed-none u (suc c ∷ l) e = absurd (omega arith)

-- the first user's own, then the others'
module _ {A : Type 0} (f : ℕ → A) where
  map-replicate : (n u : ℕ) → map f (replicate n u) ≡ replicate n (f u)
  map-replicate zero u = refl
  map-replicate (suc n) u = ap (λ l. f u ∷ l) (map-replicate n u)

  pub listed_next : (u c : ℕ) (l : List ℕ) → map f (listed u (c ∷ l)) ≡ replicate c (f u) ++ map f (listed (suc u) l)
  listed_next u c l = map-append f (replicate c u) (listed (suc u) l) ∙ ap (λ m. m ++ map f (listed (suc u) l)) (map-replicate c u)
