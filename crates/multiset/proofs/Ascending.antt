-- The users of a multiset are listed ascending, each as often as its count says, and no other list of users is so.
use mathlib.Core.Path.{◌≡◌, refl, sym, ◌∙◌, ap, ap₂, fun_ext, subst}
use mathlib.Core.Bool.{Bool, true, false, So, cond}
use mathlib.Core.List.{List, [], ◌∷◌, ◌++◌}
use Prim.Native.Nat.{ℕ, zero, suc, ◌+◌, ◌≤◌, ◌<◌}
use native.Mathlib.Nat.{zero-add, add-zero}
use native.Mathlib.Omega.{arith}
use lib.Dec.{leb, eqb}
use lib.ListN.{length, get_or, replicate}
use borrow.Author.Tests.{leb-true, le-leb, eq-eqb, ne_eqb}
use Rattle.soda.specs.Lists.{all, ascending}
use Rattle.soda.specs.Multisets.{multiset}
use Rattle.soda.proofs.Bools.{and_split, and-join, less, same, more, order}
use Rattle.multiset.specs.MultisetTest.{listed, ListedIsAscending}
use Rattle.multiset.proofs.Listed.{listed-all}

-- ── ascending lists ──
-- none of the list is below u
abbrev From : ℕ → List ℕ → Type 0
From u l = So (all (leb u) l)

from_cons : (u : ℕ) (l : List ℕ) → From u l → From u (u ∷ l)
from_cons u l h = and-join (leb u u) (all (leb u) l) (le-leb u u (omega arith)) h

from_lower : (u v : ℕ) (l : List ℕ) → u ≤ v → From v l → From u l
from_lower u v [] h k = refl
from_lower u v (x ∷ l) h k =
    let (first, rest) = and_split (leb v x) (all (leb v) l) k in
    and-join (leb u x) (all (leb u) l) (le-leb u x (omega (arith, leb-true v x first))) (from_lower u v l h rest)

-- u before a list: it ascends where the list does and none of the list is below u
before : (u : ℕ) (l : List ℕ) → From u l → So (ascending leb l) → So (ascending leb (u ∷ l))
before u [] h k = refl
before u (v ∷ l) h k = and-join (leb u v) (ascending leb (v ∷ l)) (and_split (leb u v) (all (leb u) l) h).0 k

behind : (u : ℕ) (l : List ℕ) → So (ascending leb (u ∷ l)) → From u l × So (ascending leb l)
behind u [] h = (refl, refl)
behind u (v ∷ l) h =
    let (first, rest) = and_split (leb u v) (ascending leb (v ∷ l)) h in
    (and-join (leb u v) (all (leb u) l) first (from_lower u v l (leb-true u v first) (behind v l rest).0), rest)

-- ── how often a user occurs ──
multiset_append : (s t : List ℕ) (v : ℕ) → multiset (s ++ t) v ≡ multiset s v + multiset t v
multiset_append [] t v = sym (zero-add (multiset t v))
multiset_append (u ∷ s) t v = let e = multiset_append s t v in omega arith

multiset-replicate : (n u v : ℕ) → multiset (replicate n u) v ≡ cond (eqb u v) n 0
multiset-replicate n u v = go (eqb u v) refl n
  where
    go : (b : Bool) → eqb u v ≡ b → (n : ℕ) → multiset (replicate n u) v ≡ cond b n 0
    go true e zero = refl
    go true e (suc n) = let k = go true e n in rw e (omega arith)
    go false e zero = refl
    go false e (suc n) = let k = go false e n in rw e (omega arith)

-- the first of a list occurs, one below all of it does not
occurs : (u : ℕ) (l : List ℕ) → multiset (u ∷ l) u ≡ 1 + multiset l u
occurs u l = rw (eq-eqb u u refl)

absent : (u v : ℕ) (l : List ℕ) → From u l → v < u → multiset l v ≡ 0
absent u v [] h k = refl
absent u v (x ∷ l) h k =
    let (first, rest) = and_split (leb u x) (all (leb u) l) h in
    rw (ne_eqb x v (λ e. omega (arith, leb-true u x first)), absent u v l rest k)

-- an ascending list is known by how often each user occurs in it
ascending-is-one : (s t : List ℕ) → So (ascending leb s) → So (ascending leb t) → ((v : ℕ) → multiset s v ≡ multiset t v) → s ≡ t
ascending-is-one [] [] h k e = refl
ascending-is-one [] (y ∷ t) h k e = absurd (omega (arith, e y, occurs y t))
ascending-is-one (x ∷ s) [] h k e = absurd (omega (arith, e x, occurs x s))
ascending-is-one (x ∷ s) (y ∷ t) h k e = elim (order x y) [
  | less l ↦ absurd (omega (arith, e x, occurs x s, absent y x (y ∷ t) (from_cons y t (behind y t k).0) l))
  | same d ↦ ap₂ (λ u l. u ∷ l) d (ascending-is-one s t (behind x s h).1 (behind y t k).1 (λ v. let f = rw d at (e v) in omega arith))
  | more l ↦ absurd (omega (arith, e y, occurs y t, absent x y (x ∷ s) (from_cons x s (behind x s h).0) l))
]

-- ── the users of a multiset ──
listed-from : (b u : ℕ) (l : List ℕ) → b ≤ u → From b (listed u l)
listed-from b u l h = listed-all (leb b) (u + length l) u l (omega arith) (λ v p q. le-leb b v (omega arith))

repeated : (n u : ℕ) (l : List ℕ) → From u l → So (ascending leb l) → From u (replicate n u ++ l) × So (ascending leb (replicate n u ++ l))
repeated zero u l h k = (h, k)
repeated (suc n) u l h k =
    let (over, ascends) = repeated n u l h k in
    (from_cons u (replicate n u ++ l) over, before u (replicate n u ++ l) over ascends)

listed_ascends : (u : ℕ) (l : List ℕ) → So (ascending leb (listed u l))
listed_ascends u [] = refl
listed_ascends u (c ∷ l) = (repeated c u (listed (suc u) l) (listed-from u (suc u) l (omega arith)) (listed_ascends (suc u) l)).1

-- the first count is that of user u: the k-th behind it occurs as often as the k-th count says
counted_at : (l : List ℕ) (u k : ℕ) → multiset (listed u l) (u + k) ≡ get_or l k 0
counted_at [] u k = refl
counted_at (n ∷ l) u zero =
    let e : u ≡ u + 0 = omega arith in
    multiset_append (replicate n u) (listed (suc u) l) (u + 0)
    ∙ ap₂ (λ x y. x + y) (multiset-replicate n u (u + 0) ∙ ap (λ b. cond b n 0) (eq-eqb u (u + 0) e))
    (absent (suc u) (u + 0) (listed (suc u) l) (listed-from (suc u) (suc u) l (omega arith)) (omega arith))
    ∙ add-zero n
counted_at (n ∷ l) u (suc k) =
    let e : u + suc k ≡ suc u + k = omega arith in
    multiset_append (replicate n u) (listed (suc u) l) (u + suc k)
    ∙ ap₂ (λ x y. x + y) (multiset-replicate n u (u + suc k) ∙ ap (λ b. cond b n 0) (ne_eqb u (u + suc k) (λ z. omega arith)))
    (ap (multiset (listed (suc u) l)) e ∙ counted_at l (suc u) k)
    ∙ zero-add (get_or l k 0)

pub counted-users : (counts : List ℕ) → multiset (listed 0 counts) ≡ (λ u. get_or counts u 0)
counted-users counts = fun_ext (λ u. ap (multiset (listed 0 counts)) (sym (zero-add u)) ∙ counted_at counts 0 u)

pub listed-is-ascending : ListedIsAscending
listed-is-ascending counts users = (
  λ e. subst (λ l. So (ascending leb l) × (multiset l ≡ (λ u. get_or counts u 0))) (sym e) (listed_ascends 0 counts, counted-users counts),
  λ (h, e). ascending-is-one users (listed 0 counts) h (listed_ascends 0 counts) (λ v. ap (λ m. m v) (e ∙ sym (counted-users counts))),
)
