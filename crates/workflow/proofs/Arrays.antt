-- An array of n equal elements, the first of which are replaced by those of a list, one by one.
use mathlib.Core.Path.{◌≡◌, sym, ap, ap₂, ◌∙◌}
use mathlib.Core.List.{List, ◌++◌, map}
use Prim.Native.Nat.{ℕ, suc, ◌+◌, ◌-◌, ◌≤◌, ◌<◌}
use native.Mathlib.Omega.{arith}
use native.Mathlib.Numerals.{add-one}
use lib.ListN.{length, get_or, set, take, replicate, length-map}
use lib.Seq.{take-suc, take_all, length-take-le, set_at, append_snoc}
use Rattle.soda.specs.Lists.{range}
use Rattle.soda.proofs.Lists.{range_length, map_below}

-- the list f 0, f 1, .. of m elements
abbrev pub listed : {A : Type 0} → (ℕ → A) → ℕ → List A
listed f m = map f (range 0 m)

pub listed-length : {A : Type 0} (f : ℕ → A) (m : ℕ) → length (listed f m) ≡ m
listed-length f m = length-map (range 0 m) f ∙ range_length 0 m

-- its first i elements stand in an array of n places, and d behind them
pub record Laid {A : Type 0} (d : A) (n : ℕ) (f : ℕ → A) (m i : ℕ) (a : List A) : Type 0 where
  pub is : a ≡ take i (listed f m) ++ replicate (n - i) d

module _ {A : Type 0} {d : A} {n : ℕ} {f : ℕ → A} {m i : ℕ} {a : List A} (k : Laid d n f m i a) where
  pub laid_next : (x : A) → i < m → m ≤ n → x ≡ f i → Laid d n f m (i + 1) (set a i x)
  laid_next x within room e = record {
    is =
        ap₂ (λ (l : List A) (y : A). set l i y) (k.is ∙ ap (λ (j : ℕ). take i (listed f m) ++ replicate j d) left) (e ∙ sym here)
        ∙ set_at (take i (listed f m)) d (replicate (n - (i + 1)) d) (get_or (listed f m) i d) i (length-take-le i (listed f m) (omega (arith, listed-length f m)))
        ∙ sym (append_snoc (take i (listed f m)) (get_or (listed f m) i d) (replicate (n - (i + 1)) d))
        ∙ ap (λ (p : List A). p ++ replicate (n - (i + 1)) d)
        (sym (take-suc (listed f m) i d (omega (arith, listed-length f m))) ∙ ap (λ (j : ℕ). take j (listed f m)) (sym (add-one i)));
  }
    where
      left : n - i ≡ suc (n - (i + 1))
      left = omega arith

      here : get_or (listed f m) i d ≡ f i
      here = map_below f d m i within

  pub laid-all : i ≡ m → a ≡ listed f m ++ replicate (n - m) d
  laid-all e = k.is ∙ rw (e, take_all m (listed f m) (omega (arith, listed-length f m)))
