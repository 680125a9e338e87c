-- Sets: the ascending lists of numbers below 16 are the masks of 16 bits, and what is read of a set is such a list.
use mathlib.Core.Path.{◌≡◌, refl, sym, ap, ◌∙◌}
use mathlib.Core.Bool.{true, false, ◌||◌, cond}
use mathlib.Core.List.{List, [], ◌∷◌, ◌++◌, append_assoc}
use mathlib.Core.Option.{some}
use Prim.Native.Nat.{ℕ, zero, suc, ◌+◌, ◌*◌, ◌/◌, ◌%◌, ◌^◌, ◌≤◌, ◌<◌}
use native.Mathlib.Omega.{arith}
use native.Mathlib.Nat.{mod-eq_of_lt, pow-suc}
use borrow.Author.Tests.{eqb-true, eqb-false, eq-eqb, ne_eqb, le-ltb, ltb-false}
use lib.Dec.{ltb, eqb}
use lib.ListN.{length}
use lib.Pow.{pow_mono, pow_pos, mod-pow-add}
use Rattle.soda.specs.Bits.{bit, set_bit}
use Rattle.soda.proofs.Bits.{bit_le, bit-set_bit}
use Rattle.soda.proofs.Bools.{by_test, not_so, less, same, more, order}
use Rattle.text.specs.Texts.{ascii, numeral, members, listed, set_text}
use Rattle.text.specs.Grammar.{members_in}
use Rattle.text.proofs.Beginnings.{Finds, finds_none, finds_weaker, finds_upon, finds_or, finds_behind, finds_keyword}
use Rattle.text.proofs.Numbers.{numeral_finds, numeral_read}

-- ── lists and masks ──
-- strictly ascending numbers from `low` on, below 16
abbrev pub Ascending : ℕ → List ℕ → Type 0
Ascending low [] = low ≤ 16
Ascending low (v ∷ l) = (low ≤ v) × Ascending (suc v) l

-- the mask with these bits besides those of m
abbrev pub mask : ℕ → List ℕ → ℕ
mask m [] = m
mask m (v ∷ l) = mask (m + 2 ^ v) l

ascending-low : (low : ℕ) (l : List ℕ) → Ascending low l → low ≤ 16
ascending-low low [] a = a
ascending-low low (v ∷ l) a = omega (arith, ascending-low (suc v) l a.1)

ascending-from : (low : ℕ) (l : List ℕ) → Ascending (suc low) l → Ascending low l
ascending-from low [] a = omega arith
ascending-from low (v ∷ l) a = (omega arith, a.1)

-- one bit more, above the others
bit_above : (m v : ℕ) → m < 2 ^ v → bit v m ≡ false
bit_above m v h = not_so (bit v m) (λ e. omega (arith, bit_le v m e))

bit_added : (i m v : ℕ) → m < 2 ^ v → bit i (m + 2 ^ v) ≡ (eqb i v || bit i m)
unfolding set_bit
bit_added i m v h = ap (λ b. bit i (cond b m (m + 2 ^ v))) (sym (bit_above m v h)) ∙ bit-set_bit v i m

module _ (low m v : ℕ) (h : m < 2 ^ low) (k : low ≤ v) where
  above : m < 2 ^ v
  above = omega (arith, pow_mono k)

  added : m + 2 ^ v < 2 ^ suc v
  added = omega (arith, above, pow-suc 2 v)

mask_least : (m : ℕ) (l : List ℕ) → m ≤ mask m l
mask_least m [] = omega arith
mask_least m (v ∷ l) = omega (arith, mask_least (m + 2 ^ v) l)

mask_most : (low m : ℕ) (l : List ℕ) → m < 2 ^ low → Ascending low l → mask m l < 2 ^ 16
mask_most low m [] h a = omega (arith, pow_mono a)
mask_most low m (v ∷ l) h a = mask_most (suc v) (m + 2 ^ v) l (added low m v h a.0) a.1

-- the bits below the list's numbers stay
mask_below : (i low m : ℕ) (l : List ℕ) → i < low → m < 2 ^ low → Ascending low l → bit i (mask m l) ≡ bit i m
mask_below i low m [] k h a = refl
mask_below i low m (v ∷ l) k h a =
    mask_below i (suc v) (m + 2 ^ v) l (omega arith) (added low m v h a.0) a.1
    ∙ bit_added i m v (above low m v h a.0)
    ∙ rw (ne_eqb i v (λ e. omega arith))

-- ── the list of a mask, and the mask of a list ──
pub members-ascending : (k u m : ℕ) → u + k ≤ 16 → Ascending u (members k u m)
members-ascending zero u m h = omega arith
members-ascending (suc k) u m h =
    let a = members-ascending k (suc u) m (omega arith) in
    by_test (bit u m) (λ e. rw e (omega arith, a)) λ e. rw e (ascending-from u (members k (suc u) m) a)

-- the rest by one bit more
mod_next : (u m : ℕ) → m % 2 ^ suc u ≡ (m / 2 ^ u % 2) * 2 ^ u + m % 2 ^ u
mod_next u m = let e : suc u ≡ 1 + u = omega arith in ap (λ (i : ℕ). m % 2 ^ i) e ∙ mod-pow-add m 1 u

mask-members : (k u w m : ℕ) → u + k ≡ w → mask (m % 2 ^ u) (members k u m) ≡ m % 2 ^ w
mask-members zero u w m h = let e : u ≡ w = omega arith in ap (λ (i : ℕ). m % 2 ^ i) e
mask-members (suc k) u w m h = by_test (bit u m)
    (λ e. let d = eqb-true (m / 2 ^ u % 2) 1 e in
    let z : m % 2 ^ u + 2 ^ u ≡ m % 2 ^ suc u = omega (arith, rw d at (mod_next u m)) in
    rw e (ap (λ (x : ℕ). mask x (members k (suc u) m)) z ∙ mask-members k (suc u) w m (omega arith)))
    λ e. let d : m / 2 ^ u % 2 ≡ 0 = even_digit (m / 2 ^ u) (eqb-false (m / 2 ^ u % 2) 1 e) in
    let z : m % 2 ^ u ≡ m % 2 ^ suc u = omega (arith, rw d at (mod_next u m)) in
    rw e (ap (λ (x : ℕ). mask x (members k (suc u) m)) z ∙ mask-members k (suc u) w m (omega arith))
  where
    even_digit : (n : ℕ) → (n % 2 ≡ 1 → ⊥) → n % 2 ≡ 0
    even_digit n f = omega arith

members-mask : (k u m : ℕ) (l : List ℕ) → u + k ≡ 16 → m < 2 ^ u → Ascending u l → members k u (mask m l) ≡ l
members-mask zero u m [] e h a = refl
members-mask zero u m (v ∷ l) e h a = absurd (omega (arith, ascending-low (suc v) l a.1))
members-mask (suc k) u m [] e h a =
    rw (bit_above m u h) (members-mask k (suc u) m [] (omega arith) (omega (arith, pow-suc 2 u)) (omega arith))
members-mask (suc k) u m (v ∷ l) e h a = elim (order u v) [
  | less q ↦
      let n : m < 2 ^ suc u = omega (arith, pow-suc 2 u) in
      rw (mask_below u (suc u) m (v ∷ l) (omega arith) n (q, a.1), bit_above m u h)
      (members-mask k (suc u) m (v ∷ l) (omega arith) n (q, a.1))
  | same q ↦
      let n = added u m v h a.0 in
      let o : bit v (m + 2 ^ v) ≡ true = bit_added v m v (above u m v h a.0) ∙ rw (eq-eqb v v refl) in
      ap (λ (i : ℕ). members (suc k) i (mask (m + 2 ^ v) l)) q
      ∙ rw (mask_below v (suc v) (m + 2 ^ v) l (omega arith) n a.1, o)
      (ap (λ (r : List ℕ). v ∷ r) (members-mask k (suc v) (m + 2 ^ v) l (omega arith) n a.1))
  | more q ↦ absurd (omega arith)
]

-- ── texts ──
-- numbers, the first without a sign, and what closes them
abbrev body : ℕ → List ℕ → List ℕ → List ℕ
body v l rest = numeral v ++ (listed 44 l ++ (125 ∷ rest))

listed-body : (sign v : ℕ) (l rest : List ℕ) → listed sign (v ∷ l) ++ (125 ∷ rest) ≡ sign ∷ body v l rest
listed-body sign v l rest = ap (λ (t : List ℕ). sign ∷ t) (append_assoc (numeral v) (listed 44 l) (125 ∷ rest))

members_read : (n low m v : ℕ) (l rest : List ℕ) → length (v ∷ l) ≤ n → Ascending low (v ∷ l)
    → members_in n low m (body v l rest) ≡ some (mask m (v ∷ l), rest)
members_read zero low m v l rest h a = absurd (omega arith)
members_read (suc n) low m v [] rest h a = rw (numeral_read v (125 ∷ rest) a.1 refl, le-ltb v low a.0)
members_read (suc n) low m v (w ∷ l) rest h a =
    rw (listed-body 44 w l rest, numeral_read v (44 ∷ body w l rest) (ascending-low (suc v) (w ∷ l) a.1) refl, le-ltb v low a.0)
    (members_read n (suc v) (m + 2 ^ v) w l rest (omega arith) a.1)

-- such a list stands at the text's beginning
record Numbers (low m : ℕ) (t : List ℕ) (r : ℕ × List ℕ) : Type 0 where
  first : ℕ
  others : List ℕ
  ascend : Ascending low (first ∷ others)
  is_text : t ≡ body first others r.1
  is_mask : r.0 ≡ mask m (first ∷ others)

members-some : (n low m : ℕ) (t : List ℕ) → Finds (members_in n low m t) (Numbers low m t)
members-some zero low m t = finds_none
members-some (suc n) low m t =
    finds_upon (numeral_finds t) λ u p.
    let v = u.0 in
    by_test (ltb v low) (λ b. rw b finds_none)
    λ b. let k = ltb-false v low b in
    rw b (finds_or
    (finds_keyword (ascii "}") (m + 2 ^ v) u.1 λ rest e. record { first = v; others = []; ascend = (k, p.1); is_text = p.0 ∙ rw e; is_mask = refl })
    (finds_behind (ascii ",") u.1 λ s e. finds_weaker (members-some n (suc v) (m + 2 ^ v) s) λ r i. record {
      first = v;
      others = i.first ∷ i.others;
      ascend = (k, i.ascend);
      is_text = p.0 ∙ rw (e, i.is_text, listed-body 44 i.first i.others r.1);
      is_mask = i.is_mask;
    }))

-- ── sets ──
set_body : (v : ℕ) (l rest : List ℕ) → (listed 123 (v ∷ l) ++ ascii "}") ++ rest ≡ 123 ∷ body v l rest
set_body v l rest = append_assoc (listed 123 (v ∷ l)) (ascii "}") rest ∙ listed-body 123 v l rest

members-length : (k u m : ℕ) → length (members k u m) ≤ k
members-length zero u m = omega arith
members-length (suc k) u m = let i = members-length k (suc u) m in by_test (bit u m) (λ e. rw e (omega arith)) λ e. rw e (omega arith)

pub set_read : (m : ℕ) (rest : List ℕ) → 1 ≤ m → m < 2 ^ 16
    → (t : List ℕ) × (set_text m ++ rest ≡ 123 ∷ t) × (members_in 16 0 0 t ≡ some (m, rest))
set_read m rest h k =
    go (members 16 0 m) (members-length 16 0 m) (members-ascending 16 0 m (omega arith))
    (let z : 0 ≡ m % 1 = omega arith in ap (λ (x : ℕ). mask x (members 16 0 m)) z ∙ mask-members 16 0 16 m refl ∙ mod-eq_of_lt k)
  where
    go : (l : List ℕ) → length l ≤ 16 → Ascending 0 l → mask 0 l ≡ m
        → (t : List ℕ) × ((listed 123 l ++ ascii "}") ++ rest ≡ 123 ∷ t) × (members_in 16 0 0 t ≡ some (m, rest))
    go [] n a e = absurd (omega arith)
    go (v ∷ l) n a e = (body v l rest, set_body v l rest, members_read 16 0 0 v l rest n a ∙ ap (λ (x : ℕ). some (x, rest)) e)

pub set-some : (t rest : List ℕ) (m : ℕ) → members_in 16 0 0 t ≡ some (m, rest) → (123 ∷ t ≡ set_text m ++ rest) × (1 ≤ m) × (m < 2 ^ 16)
set-some t rest m e =
    let i = (members-some 16 0 0 t).has (m, rest) e in
    let v = i.first in
    let l = i.others in
    let same : members 16 0 m ≡ v ∷ l = ap (members 16 0) i.is_mask ∙ members-mask 16 0 0 (v ∷ l) refl (omega arith) i.ascend in (
      rw i.is_text (sym (ap (λ (l : List ℕ). (listed 123 l ++ ascii "}") ++ rest) same ∙ set_body v l rest)),
      omega (arith, i.is_mask, mask_least (0 + 2 ^ v) l, pow_pos v),
      rw i.is_mask (mask_most 0 0 (v ∷ l) (omega arith) i.ascend),
    )
