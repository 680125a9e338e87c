-- The actions that a mask selects: their number, one action more, and their splits, which are the masks within the mask.
use mathlib.Core.Path.{◌≡◌, refl, sym, ap, ap₂, ◌∙◌, subst}
use mathlib.Core.Bool.{Bool, true, false, cond}
use mathlib.Core.List.{List, [], ◌∷◌, ◌++◌}
use Prim.Native.Nat.{ℕ, zero, suc, ◌+◌, ◌-◌, ◌*◌, ◌/◌, ◌%◌, ◌^◌, ◌<◌}
use native.Mathlib.Nat.{pow-suc}
use native.Mathlib.Omega.{arith}
use lib.Arith.{lt-one, bin_ind}
use lib.Bits.{and_zero_l}
use lib.Count.{ones, ones_step}
use lib.Dec.{eqb}
use lib.ListN.{length, get_or, take}
use Rattle.soda.specs.Bits.{bit}
use Rattle.soda.specs.Lists.{Split, nil, left, right}
use Rattle.soda.proofs.Bits.{even, odd}
use Rattle.workspace.specs.Workspace.{select}
use Rattle.workspace.proofs.Submask.{Within, within-half, within-digit, within-join, rest-half, rest-digit}

-- the lowest digit
pub is_odd : (n : ℕ) → n % 2 ≡ 1 → bit 0 n ≡ true
is_odd n e = let k : n / 1 % 2 ≡ 1 = omega arith in ap (λ x. eqb x 1) k

pub is_even : (n : ℕ) → n % 2 ≡ 0 → bit 0 n ≡ false
is_even n e = let k : n / 1 % 2 ≡ 0 = omega arith in ap (λ x. eqb x 1) k

rest_of : (y n m d r : ℕ) → y % 2 ≡ n - m → d ≡ m → d + r ≡ n → r ≡ y / 1 % 2
rest_of y n m d r e f g = omega arith

half_lt : (n s : ℕ) → s < 2 ^ suc n → s / 2 < 2 ^ n
half_lt n s h = omega (arith, pow-suc 2 n)

-- a set is empty exactly when no digit is counted
pub ones_none : (s : ℕ) → ones s ≡ 0 → s ≡ 0
ones_none = bin_ind (λ n. ones n ≡ 0 → n ≡ 0) (λ _. refl) (λ n ih h. let e = ones_step n in let k = ih (omega arith) in omega arith)

pub some-ones : (s : ℕ) → (ones s ≡ 0 → ⊥) → 0 < s
unfolding ones
some-ones zero h = absurd (h refl)
some-ones (suc s) h = omega arith

module _ {A : Type 0} where
  pub select-none : (l : List A) → select 0 l ≡ []
  select-none [] = refl
  select-none (x ∷ l) = select-none l

  -- as many as the mask has digits
  pub length-select : (l : List A) (s : ℕ) → s < 2 ^ length l → length (select s l) ≡ ones s
  unfolding ones
  length-select [] s h = sym (ap ones (lt-one h))
  length-select (x ∷ l) s h = go (bit 0 s) refl (length-select l (s / 2) (half_lt (length l) s h))
    where
      go : (b : Bool) → bit 0 s ≡ b → length (select (s / 2) l) ≡ ones (s / 2) → length (cond b (x ∷ select (s / 2) l) (select (s / 2) l)) ≡ ones s
      go true e ih = omega (arith, odd s e, ones_step s)
      go false e ih = omega (arith, even s e, ones_step s)

  -- elements past the mask's digits do not matter
  pub select-take : (n : ℕ) (l : List A) (s : ℕ) → s < 2 ^ n → select s (take n l) ≡ select s l
  select-take zero l s h = sym (ap (λ m. select m l) (lt-one h) ∙ select-none l)
  select-take (suc n) [] s h = refl
  select-take (suc n) (x ∷ l) s h = ap (λ m. cond (bit 0 s) (x ∷ m) m) (select-take n l (s / 2) (half_lt n s h))

  -- a mask with one digit more, above its others
  pub select-next : (l : List A) (j t : ℕ) (d : A) → j < length l → t < 2 ^ j → select (2 ^ j + t) l ≡ select t l ++ (get_or l j d ∷ [])
  select-next [] j t d h k = absurd (omega arith)
  select-next (x ∷ l) zero t d h k =
      let z = lt-one k in
      ap (λ m. select (1 + m) (x ∷ l)) z ∙ ap (λ m. x ∷ m) (select-none l) ∙ sym (ap (λ m. select m (x ∷ l) ++ (x ∷ [])) z ∙ ap (λ m. m ++ (x ∷ [])) (select-none l))
  select-next (x ∷ l) (suc j) t d h k =
      let p = pow-suc 2 j in
      let same : (2 ^ suc j + t) / 1 % 2 ≡ t / 1 % 2 = omega arith in
      let half : (2 ^ suc j + t) / 2 ≡ 2 ^ j + t / 2 = omega arith in
      ap₂ (λ b m. cond (eqb b 1) (x ∷ select m l) (select m l)) same half
      ∙ ap (λ m. cond (bit 0 t) (x ∷ m) m) (select-next l j (t / 2) d (omega arith) (half_lt j t k))
      ∙ go (bit 0 t)
    where
      go : (b : Bool) → cond b (x ∷ (select (t / 2) l ++ (get_or l j d ∷ []))) (select (t / 2) l ++ (get_or l j d ∷ [])) ≡ cond b (x ∷ select (t / 2) l) (select (t / 2) l) ++ (get_or l j d ∷ [])
      go true = refl
      go false = refl

  -- each mask within s splits what s selects
  pub cut : (l : List A) (s x : ℕ) → Within x s → Split (select s l) (select x l) (select (s - x) l)
  cut [] s x w = nil
  cut (a ∷ l) s x w = go (bit 0 s) refl (bit 0 x) refl (subst (λ n. Split (select (s / 2) l) (select (x / 2) l) (select n l)) (sym (rest-half x s w)) (cut l (s / 2) (x / 2) (within-half x s w)))
    where
      to : (b b' b'' : Bool) → bit 0 s ≡ b → bit 0 x ≡ b' → bit 0 (s - x) ≡ b''
          → Split (cond b (a ∷ select (s / 2) l) (select (s / 2) l)) (cond b' (a ∷ select (x / 2) l) (select (x / 2) l)) (cond b'' (a ∷ select ((s - x) / 2) l) (select ((s - x) / 2) l))
          → Split (select s (a ∷ l)) (select x (a ∷ l)) (select (s - x) (a ∷ l))
      to b b' b'' p q e k = rw (p, q, e) k

      go : (b : Bool) → bit 0 s ≡ b → (c : Bool) → bit 0 x ≡ c → Split (select (s / 2) l) (select (x / 2) l) (select ((s - x) / 2) l)
          → Split (select s (a ∷ l)) (select x (a ∷ l)) (select (s - x) (a ∷ l))
      go false e true f ih = absurd (omega (arith, even s e, odd x f, within-digit x s w))
      go false e false f ih = to false false false e f (is_even (s - x) (omega (arith, even s e, even x f, rest-digit x s w))) ih
      go true e true f ih = to true true false e f (is_even (s - x) (omega (arith, odd s e, odd x f, rest-digit x s w))) (left ih)
      go true e false f ih = to true false true e f (is_odd (s - x) (omega (arith, odd s e, even x f, rest-digit x s w))) (right ih)

  -- each split is by such a mask
  pub record Cut (l : List A) (s : ℕ) (one two : List A) : Type 0 where
    pub part : ℕ
    pub within : Within part s
    pub is_one : one ≡ select part l
    pub is_two : two ≡ select (s - part) l

  pub uncut : (l : List A) (s : ℕ) {one two : List A} → Split (select s l) one two → Cut l s one two
  uncut [] s nil = record { part = 0; within = and_zero_l s; is_one = refl; is_two = refl }
  uncut (a ∷ l) s p = go (bit 0 s) refl p (λ u v q. uncut l (s / 2) q)
    where
      -- the part x, with the lowest digits d of it and r of the rest
      more : (x d r : ℕ) → d + r ≡ s % 2 → d ≡ x % 2 → {one two : List A} (k : Cut l (s / 2) one two) → k.part ≡ x / 2
          → Cut (a ∷ l) s (cond (eqb d 1) (a ∷ one) one) (cond (eqb r 1) (a ∷ two) two)
      more x d r e f k half =
          let w : Within x s = within-join x s (subst (λ n. Within n (s / 2)) half k.within) (omega arith) in
          let dx : d ≡ x / 1 % 2 = omega arith in
          let dr : r ≡ (s - x) / 1 % 2 = rest_of (s - x) (s % 2) (x % 2) d r (rest-digit x s w) f e in
          record {
            part = x;
            within = w;
            is_one = ap₂ (λ n m. cond (eqb n 1) (a ∷ m) m) dx (k.is_one ∙ ap (λ n. select n l) half);
            is_two = ap₂ (λ n m. cond (eqb n 1) (a ∷ m) m) dr (k.is_two ∙ ap (λ n. select n l) (ap (λ n. s / 2 - n) half ∙ sym (rest-half x s w)));
          }

      go : (b : Bool) → bit 0 s ≡ b → {one two : List A} → Split (cond b (a ∷ select (s / 2) l) (select (s / 2) l)) one two
          → ((u v : List A) → Split (select (s / 2) l) u v → Cut l (s / 2) u v) → Cut (a ∷ l) s one two
      go false e {one} {two} p ih = let k = ih one two p in more (k.part * 2) 0 0 (omega (arith, even s e)) (omega arith) k (omega arith)
      go true e (left {l = u} {r = v} p) ih = let k = ih u v p in more (k.part * 2 + 1) 1 0 (omega (arith, odd s e)) (omega arith) k (omega arith)
      go true e (right {l = u} {r = v} p) ih = let k = ih u v p in more (k.part * 2) 0 1 (omega (arith, odd s e)) (omega arith) k (omega arith)
