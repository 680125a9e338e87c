-- Laws of the first element that fails a test, of the part of a list from a place on, of a range of numbers, of a list copied into an array,
-- and of the length of a list.
use mathlib.Core.Path.{◌≡◌, refl, sym, ◌∙◌, ap, subst}
use mathlib.Core.Logic.{inl, inr}
use mathlib.Core.Bool.{Bool, true, false, So, cond}
use mathlib.Core.List.{List, [], ◌∷◌, ◌++◌, map}
use Prim.Native.Nat.{ℕ, zero, suc, ◌+◌, ◌-◌, ◌≤◌, ◌<◌}
use native.Mathlib.Nat.{le_of_lt}
use native.Mathlib.Omega.{arith}
use native.Mathlib.Numerals.{add-one}
use lib.Dec.{eqb-suc-suc, eqb-zero-suc}
use borrow.Author.Tests.{eqb-false, ne_eqb}
use lib.ListN.{length, get_or, set, take, drop, replicate, length-drop, length-map}
use lib.Seq.{drop-cons, ext_get_or, take_all, take-suc, take-length, length-take-le, set_at, append_snoc}
use Rattle.soda.specs.Lists.{any, all, first_failing, range, padded}
use Rattle.soda.specs.Laws.{FirstIsFirst, NoneFails, FromDrop, FromLength}
use Rattle.soda.proofs.Bools.{never, by_test, and_split, and-join, or_split, or_left, or_right}

-- ── the first element that fails a test ──
pub failing_most : {A : Type 0} (f : A → Bool) (l : List A) → first_failing f l ≤ length l
failing_most f [] = omega arith
failing_most f (x ∷ l) = by_test (f x) (λ e. rw e (omega (arith, failing_most f l))) λ e. rw e (omega arith)

pub first_fails : {A : Type 0} (f : A → Bool) (d : A) (l : List A) (p : ℕ) → p < length l → So (all f (take p l)) → f (get_or l p d) ≡ false
    → first_failing f l ≡ p
first_fails f d [] p h a e = absurd (omega arith)
first_fails f d (x ∷ l) zero h a e = rw e
first_fails f d (x ∷ l) (suc p) h a e =
    let s = and_split (f x) (all f (take p l)) a in
    rw s.0 (ap suc (first_fails f d l p (omega arith) s.1 e))

fails_first : {A : Type 0} (f : A → Bool) (d : A) (l : List A) → first_failing f l < length l
    → So (all f (take (first_failing f l) l)) × (f (get_or l (first_failing f l) d) ≡ false)
fails_first f d [] h = absurd (omega arith)
fails_first f d (x ∷ l) h = by_test (f x)
    (λ e. let r = fails_first f d l (let z : suc (first_failing f l) < length (x ∷ l) = rw e at h in omega arith) in
    rw e (and-join (f x) (all f (take (first_failing f l) l)) e r.0, r.1))
    λ e. rw e (refl, e)

pub first-is-first : FirstIsFirst
first-is-first A f d l p h = (λ e. rw e at (fails_first f d l (rw e h)), λ a. first_fails f d l p h a.0 a.1)

pub none_fails : NoneFails
none_fails A f [] = refl
none_fails A f (x ∷ l) = by_test (f x) (λ e. rw (e, eqb-suc-suc) (none_fails A f l)) λ e. rw (e, eqb-zero-suc)

-- one fails exactly where the first that does stands inside
pub one_fails : {A : Type 0} (f : A → Bool) (l : List A) → all f l ≡ false → first_failing f l < length l
one_fails f l e =
    let z = eqb-false (first_failing f l) (length l) (sym (none_fails _ f l) ∙ e) in
    omega (arith, failing_most f l)

pub fails_inside : {A : Type 0} (f : A → Bool) (l : List A) (p : ℕ) → p < length l → first_failing f l ≡ p → all f l ≡ false
fails_inside f l p h e = none_fails _ f l ∙ ne_eqb (first_failing f l) (length l) (λ z. omega arith)

-- from place i on: the element there fails, or one behind it
module _ {A : Type 0} (f : A → Bool) (d : A) (l : List A) (i : ℕ) (h : i < length l) where
  pub failing_here : f (get_or l i d) ≡ false → first_failing f (drop i l) ≡ 0
  failing_here e = rw (drop-cons l i d h, e)

  pub failing_next : f (get_or l i d) ≡ true → first_failing f (drop i l) ≡ suc (first_failing f (drop (suc i) l))
  failing_next e = ap (first_failing f) (drop-cons l i d h) ∙ rw e

-- what stands behind it plays no part
pub failing_stays : {A : Type 0} (f : A → Bool) (l : List A) (x : A) (m n : List A)
    → first_failing f (l ++ (x ∷ m)) ≡ length l → first_failing f (l ++ (x ∷ n)) ≡ length l
failing_stays f [] x m n e = by_test (f x) (λ t. absurd (let z : suc (first_failing f m) ≡ 0 = rw t at e in omega arith)) λ t. rw t
failing_stays f (y ∷ l) x m n e = by_test (f y)
    (λ t. let z : suc (first_failing f (l ++ (x ∷ m))) ≡ suc (length l) = rw t at e in
    rw t (ap suc (failing_stays f l x m n (omega arith))))
    λ t. absurd (let z : 0 ≡ suc (length l) = rw t at e in omega arith)

-- a test of what a map gives
pub failing_map : {A B : Type 0} (g : A → B) (f : B → Bool) (l : List A) → first_failing f (map g l) ≡ first_failing (λ x. f (g x)) l
failing_map g f [] = refl
failing_map g f (x ∷ l) = ap (λ (n : ℕ). cond (f (g x)) (suc n) 0) (failing_map g f l)

-- ── parts and ranges ──
pub from-drop : FromDrop
from-drop k l = take_all (length l - k) (drop k l) (omega (arith, length-drop k l))

pub from-length : FromLength
from-length k l = ap length (from-drop k l) ∙ length-drop k l

-- ── a range of numbers ──
pub range_length : (i n : ℕ) → length (range i n) ≡ n
range_length i zero = refl
range_length i (suc n) = ap suc (range_length (suc i) n)

pub map_range : {A : Type 0} (f : ℕ → A) (d : A) (i n k : ℕ) → k < n → get_or (map f (range i n)) k d ≡ f (i + k)
map_range f d i zero k h = absurd (omega arith)
map_range f d i (suc n) zero h = let e : i ≡ i + 0 = omega arith in ap f e
map_range f d i (suc n) (suc k) h = let e : suc i + k ≡ i + suc k = omega arith in map_range f d (suc i) n k (omega arith) ∙ ap f e

pub map_below : {A : Type 0} (f : ℕ → A) (d : A) (n k : ℕ) → k < n → get_or (map f (range 0 n)) k d ≡ f k
map_below f d n k h = let e : 0 + k ≡ k = omega arith in map_range f d 0 n k h ∙ ap f e

-- a test that one of them passes
pub any-range_out : (f : ℕ → Bool) (i n : ℕ) → So (any f (range i n)) → (k : ℕ) × So (f k)
any-range_out f i zero h = never h
any-range_out f i (suc n) h = elim (or_split (f i) (any f (range (suc i) n)) h) [ inl x ↦ (i, x) | inr y ↦ any-range_out f (suc i) n y ]

any-range_in : (f : ℕ → Bool) (i n k : ℕ) → k < n → So (f (i + k)) → So (any f (range i n))
any-range_in f i zero k l h = absurd (omega arith)
any-range_in f i (suc n) zero l h = let e : i + 0 ≡ i = omega arith in or_left (f i) (any f (range (suc i) n)) (rw e at h)
any-range_in f i (suc n) (suc k) l h = let e : i + suc k ≡ suc i + k = omega arith in
    or_right (f i) (any f (range (suc i) n)) (any-range_in f (suc i) n k (omega arith) (rw e at h))

pub any_below : (f : ℕ → Bool) (n k : ℕ) → k < n → So (f k) → So (any f (range 0 n))
any_below f n k l h = let e : k ≡ 0 + k = omega arith in any-range_in f 0 n k l (subst (λ (j : ℕ). So (f j)) e h)

-- a map over numbers below n depends on what it does with those
pub map_same : {A : Type 0} (d : A) (n : ℕ) (f g : ℕ → A) → ((k : ℕ) → k < n → f k ≡ g k) → map f (range 0 n) ≡ map g (range 0 n)
map_same {A = A} d n f g h = ext_get_or d (map f (range 0 n)) (map g (range 0 n)) (long f ∙ sym (long g))
    (λ k b. let c : k < n = omega (arith, long f) in map_below f d n k c ∙ h k c ∙ sym (map_below g d n k c))
  where
    long : (e : ℕ → A) → length (map e (range 0 n)) ≡ n
    long e = length-map (range 0 n) e ∙ range_length 0 n

-- ── an array that a list is copied into ──
-- n zeros, the first i of which are replaced by elements
abbrev pub copied : ℕ → List ℕ → ℕ → List ℕ
copied n xs i = take i xs ++ replicate (n - i) 0

pub copied_next : (n : ℕ) (xs : List ℕ) (i : ℕ) → i < length xs → i < n → set (copied n xs i) i (get_or xs i 0) ≡ copied n xs (i + 1)
copied_next n xs i within room =
    ap (λ (k : ℕ). set (take i xs ++ replicate k 0) i (get_or xs i 0)) left
    ∙ set_at (take i xs) 0 (replicate (n - (i + 1)) 0) (get_or xs i 0) i (length-take-le i xs (le_of_lt within))
    ∙ sym (append_snoc (take i xs) (get_or xs i 0) (replicate (n - (i + 1)) 0))
    ∙ ap (λ (p : List ℕ). p ++ replicate (n - (i + 1)) 0) (sym (take-suc xs i 0 within) ∙ ap (λ (k : ℕ). take k xs) (sym (add-one i)))
  where
    left : n - i ≡ suc (n - (i + 1))
    left = omega arith

pub copied_all : (n : ℕ) (xs : List ℕ) (i : ℕ) → i ≡ length xs → copied n xs i ≡ padded n xs
copied_all n xs i e = ap (copied n xs) e ∙ ap (λ (p : List ℕ). p ++ replicate (n - length xs) 0) (take-length xs)

-- zeros behind a list are read as what is not there
pub zeros : (k r : ℕ) → get_or {A = ℕ} (replicate k 0) r 0 ≡ 0
zeros zero r = refl
zeros (suc k) zero = refl
zeros (suc k) (suc r) = zeros k r

pub zeros-behind : (l : List ℕ) (k r : ℕ) → get_or (l ++ replicate k 0) r 0 ≡ get_or l r 0
zeros-behind [] k r = zeros k r
zeros-behind (x ∷ l) k zero = refl
zeros-behind (x ∷ l) k (suc r) = zeros-behind l k r

-- what is known of an array of structs in a struct, for `search`: its elements are counted under a map
pub length_mapped : (X Y : Type 0) (f : X → Y) (l : List X) (n : ℕ) → length (map f l) ≡ n → length l ≡ n
length_mapped X Y f l n p = sym (length-map l f) ∙ p
