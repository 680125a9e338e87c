-- The loop over the parts of t, where s is t with one action more: each part of s, or else the rest of s without it, is a part of t,
-- so the loop that takes both meets every part of s. It walks by a, (a - 1) & high, .. over the parts of `high`, which is t without
-- its lowest action, and takes each with and without that action.
use mathlib.Core.Path.{◌≡◌, refl, sym, ◌∙◌, ap, ap₂, subst}
use mathlib.Core.Bool.{Bool, true, false, So, ◌&&◌, ◌||◌, cond, true≢false, and-true, or-true, or_assoc, and-or_distrib_right}
use mathlib.Core.List.{List}
use mathlib.Core.Logic.{◌⊎◌, inl, inr, ⊎_elim}
use Prim.Native.Nat.{ℕ, zero, suc, ◌+◌, ◌-◌, ◌^◌, ◌≤◌, ◌<◌}
use native.Mathlib.Omega.{arith}
use lib.Bits.{bit_and, bit_or, and_self, and_comm, and_zero_l}
use lib.Dec.{eqb}
use lib.Pow.{pow_pos}
use Rattle.soda.specs.Bits.{bit}
use Rattle.soda.proofs.Bools.{and_split, and-join, or_split, or_left, or_right, Order, less, same, more, order, lt_or_le}
use Rattle.soda.proofs.Bits.{bit_of_zero}
use Rattle.rows.proofs.Digits.{bit-and, bit-or}
use Rattle.workspace.specs.Private.{digits, entry_at, Part, Joined, JoinedBy, Adds, Gathers, Next, sided, sided_in}
use Rattle.workspace.specs.declared.entry.Entry.{Entry}
use Rattle.workspace.proofs.Submask.{Within, Lowest, lowest, within_le, and-within, rest-within, walk, within_more, within-less}

-- ── the parts of s by those of t ──
module _ (f : ℕ → ℕ → Bool) (s t : ℕ) (n : Next s t) where
  part : (a : ℕ) → 0 < a → Within a t → Part a s
  part a h w =
      let l = within_le a t w in
      let p = pow_pos n.last in
      record {
        some = h;
        less = omega (arith, n.is);
        within = subst (Within a) (sym n.is) (within_more n.last t n.below a (omega (arith, n.below)) w);
      }

  -- what a part of t or the rest of s without it has
  of_part : (a : ℕ) → 0 < a → Within a t → (q : ℕ) → So (f a q || f (s - a) q) → (x : ℕ) × Part x s × So (f x q)
  of_part a h w q b = ⊎_elim (λ c. (a, p, c)) (λ c. (s - a, rest, c)) (or_split (f a q) (f (s - a) q) b)
    where
      p : Part a s
      p = part a h w

      rest : Part (s - a) s
      rest = record { some = omega (arith, p.less); less = omega (arith, p.some, p.less); within = rest-within a s p.within }

  -- so the parts of t and their rests are all there are
  all_parts : (has : ℕ → Bool) → ((q : ℕ) → So (has q) → (x : ℕ) × Part x s × So (f x q))
      → ((q x : ℕ) → 0 < x → Within x t → So (f x q || f (s - x) q) → So (has q)) → JoinedBy f s has
  all_parts has found each = record { found = found; each = λ q x p e. go q x p e (lt_or_le x (2 ^ n.last)) }
    where
      go : (q x : ℕ) → Part x s → So (f x q) → (x < 2 ^ n.last) ⊎ (2 ^ n.last ≤ x) → So (has q)
      go q x p e (inl l) =
          each q x p.some (within-less n.last t n.below x l (subst (Within x) n.is p.within)) (or_left (f x q) (f (s - x) q) e)
      go q x p e (inr l) =
          let m = p.less in
          let b = n.is in
          let y : s - (s - x) ≡ x = omega arith in
          let w = within-less n.last t n.below (s - x) (omega (arith, n.below)) (subst (Within (s - x)) n.is (rest-within x s p.within)) in
          each q (s - x) (omega arith) w (or_right (f (s - x) q) (f (s - (s - x)) q) (subst (λ z. So (f z q)) (sym y) e))

  -- one action has no part
  pub joined_one : t ≡ 0 → Joined f s 0
  joined_one z = all_parts (digits 0) (λ q e. absurd (true≢false (sym e ∙ bit_of_zero q))) (λ q x h w e. absurd (omega (arith, within_le x t w)))

-- s without its last action, and without its first
pub last_part : {s t : ℕ} → Next s t → Within t s × (t < s)
last_part {s} {t} n = (subst (Within t) (sym n.is) (within_more n.last t n.below t n.below (and_self t)), omega (arith, n.is, pow_pos n.last))

pub first_part : (s : ℕ) → 0 < s → Within (bit_and s (s - 1)) s × (bit_and s (s - 1) < s)
first_part s h = let l = lowest s h in (l.plain (bit_and s (s - 1)) (and_self (bit_and s (s - 1))), l.less)

-- ── the walk ──
-- what is gathered: t's lowest action alone, and the parts of the others above a, with and without it
pub record At (f : ℕ → ℕ → Bool) (s t high a : ℕ) (has : ℕ → Bool) : Type 0 where
  pub within : Within a high
  pub found : (q : ℕ) → So (has q) → (x : ℕ) × Part x s × So (f x q)
  pub alone : (q : ℕ) → So (f (t - high) q || f (s - (t - high)) q) → So (has q)
  pub plain : (q x : ℕ) → a < x → Within x high → So (f x q || f (s - x) q) → So (has q)
  pub more : (q x : ℕ) → a < x → Within x high → So (f (x + (t - high)) q || f (s - (x + (t - high))) q) → So (has q)

module _ (f : ℕ → ℕ → Bool) (s t high : ℕ) (n : Next s t) (l : Lowest t high) where
  pub begin : (has : ℕ → Bool) → ((q : ℕ) → has q ≡ (f (t - high) q || f (s - (t - high)) q)) → At f s t high high has
  begin has e = record {
    within = and_self high;
    found = λ q b. of_part f s t n (t - high) (omega (arith, l.less)) first q (sym (e q) ∙ b);
    alone = λ q b. e q ∙ b;
    plain = λ q x b w c. absurd (omega (arith, within_le x high w));
    more = λ q x b w c. absurd (omega (arith, within_le x high w));
  }
    where
      first : Within (t - high) t
      first = let z : 0 + (t - high) ≡ t - high = omega arith in subst (λ x. Within x t) z (l.more 0 (and_zero_l high))

  -- a turn's two parts
  abbrev turned : ℕ → ℕ → Bool
  turned a q = (f a q || f (s - a) q) || (f (a + (t - high)) q || f (s - (a + (t - high))) q)

  pub next : (a : ℕ) (has has' : ℕ → Bool) → 0 < a → At f s t high a has → ((q : ℕ) → has' q ≡ (has q || turned a q)) → At f s t high (bit_and (a - 1) high) has'
  next a has has' h g digits = record {
    within = and-within (a - 1) high;
    found = λ q b. ⊎_elim (g.found q) (λ b'. ⊎_elim (of_part f s t n a h (l.plain a g.within) q)
        (of_part f s t n (a + (t - high)) (omega arith) (l.more a g.within) q) (or_split (f a q || f (s - a) q) (f (a + (t - high)) q || f (s - (a + (t - high))) q) b'))
        (or_split (has q) (turned a q) (sym (digits q) ∙ b));
    alone = λ q b. old q (g.alone q b);
    plain = λ q x b w c. ⊎_elim (λ k. old q (g.plain q x k w c))
        (λ k. new q (or_left (f a q || f (s - a) q) _ (subst (λ y. So (f y q || f (s - y) q)) (sym k) c))) (past x b w (order a x));
    more = λ q x b w c. ⊎_elim (λ k. old q (g.more q x k w c))
        (λ k. new q (or_right (f a q || f (s - a) q) _ (subst (λ y. So (f (y + (t - high)) q || f (s - (y + (t - high))) q)) (sym k) c))) (past x b w (order a x));
  }
    where
      old : (q : ℕ) → So (has q) → So (has' q)
      old q b = digits q ∙ or_left (has q) (turned a q) b

      new : (q : ℕ) → So (turned a q) → So (has' q)
      new q b = digits q ∙ or_right (has q) (turned a q) b

      past : (x : ℕ) → bit_and (a - 1) high < x → Within x high → Order a x → (a < x) ⊎ (a ≡ x)
      past x b w (less k) = inl k
      past x b w (same k) = inr k
      past x b w (more k) = absurd (omega (arith, walk a high x g.within w k))

  pub done : (a : ℕ) (has : ℕ → Bool) → a ≤ 0 → At f s t high a has → JoinedBy f s has
  done a has h g = all_parts f s t n has g.found (λ q x k w c. go q x k c (l.split x w))
    where
      go : (q x : ℕ) → 0 < x → So (f x q || f (s - x) q) → (y : ℕ) × Within y high × ((x ≡ y) ⊎ (x ≡ y + (t - high))) → So (has q)
      go q x k c (y, w, inl e) = g.plain q x (omega arith) (subst (λ z. Within z high) (sym e) w) c
      go q x k c (zero, w, inr e) = g.alone q (subst (λ z. So (f z q || f (s - z) q)) (let z : x ≡ t - high = omega arith in z) c)
      go q x k c (suc y, w, inr e) = g.more q (suc y) (omega arith) w (subst (λ z. So (f z q || f (s - z) q)) e c)

pub next_le : {s t : ℕ} → Next s t → t ≤ s
next_le n = omega (arith, n.is)

-- ── two sets ──
regroup : (a b c d : Bool) → ((a || c) || (b || d)) ≡ ((a || b) || (c || d))
regroup true b c d = refl
regroup false true c d = or-true c
regroup false false c d = refl

pub adds-pair : (one two : Entry) (ahead back : ℕ)
    → Adds sided one two (λ q. bit q ahead || bit q back)
    (λ q. bit q (bit_or ahead (bit_and one.row.left two.row.right)) || bit q (bit_or back (bit_and two.row.left one.row.right)))
adds-pair one two ahead back = record {
  each = λ q.
      ap₂ ◌||◌ (bit-or q ahead _ ∙ ap (λ b. bit q ahead || b) (bit-and q _ _)) (bit-or q back _ ∙ ap (λ b. bit q back || b) (bit-and q _ _))
      ∙ regroup (bit q ahead) (bit q back) (sided one two q) (sided two one q);
}

-- where users are compared
pub adds-apart : (one two : Entry) (joint anyone found r : ℕ) → r ≡ cond (eqb (bit_and one.users two.users) 0) joint anyone
    → Adds (sided_in joint anyone) one two (digits found)
    (digits (bit_or found (bit_and (bit_or (bit_and one.row.left two.row.right) (bit_and two.row.left one.row.right)) r)))
adds-apart one two joint anyone found r e = record {
  each = λ q.
      bit-or q found _
      ∙ ap (λ b. bit q found || b)
      (bit-and q _ r ∙ ap₂ ◌&&◌ (words-at q) (ap (bit q) e)
      ∙ and-or_distrib_right (sided one two q) (sided two one q) (bit q (cond (eqb (bit_and one.users two.users) 0) joint anyone))
      ∙ ap (λ n. sided_in joint anyone one two q || sided two one q && bit q (cond (eqb n 0) joint anyone)) (and_comm one.users two.users));
}
  where
    words-at : (q : ℕ) → bit q (bit_or (bit_and one.row.left two.row.right) (bit_and two.row.left one.row.right)) ≡ (sided one two q || sided two one q)
    words-at q = simp (bit-or, bit-and)

-- ── what the calls gather ──
module _ {A : Type 0} {post : A → Entry → Entry → A → Type 0} {has : A → ℕ → Bool} {f : Entry → Entry → ℕ → Bool} (g : Gathers post has f) (sets : List Entry) (s : ℕ) where
  -- of the part x of s and the rest
  abbrev at : ℕ → ℕ → Bool
  at x q = f (entry_at sets x) (entry_at sets (s - x)) q

  one-of : (x : ℕ) → x ≤ s → (one two : Entry) → one ≡ entry_at sets x → two ≡ entry_at sets (s - x) → (q : ℕ) → (f one two q || f two one q) ≡ (at x q || at (s - x) q)
  one-of x h one two e d q =
      let back : x ≡ s - (s - x) = omega arith in
      ap₂ (λ i j. f i j q || f j i q) e d ∙ ap (λ k. at x q || f (entry_at sets (s - x)) (entry_at sets k) q) back

  pub gathered : (none r : A) (x : ℕ) → x ≤ s → (one two : Entry) → one ≡ entry_at sets x → two ≡ entry_at sets (s - x)
      → ((q : ℕ) → has none q ≡ false) → post none one two r → (q : ℕ) → has r q ≡ (at x q || at (s - x) q)
  gathered none r x h one two e d z p q = (g.adds none r one two p).each q ∙ ap (λ b. b || (f one two q || f two one q)) (z q) ∙ one-of x h one two e d q

  -- of two parts
  pub gathered_twice : (a b c : A) (x y : ℕ) → x ≤ s → y ≤ s → (one two three four : Entry)
      → one ≡ entry_at sets x → two ≡ entry_at sets (s - x) → three ≡ entry_at sets y → four ≡ entry_at sets (s - y)
      → post a one two b → post b three four c → (q : ℕ) → has c q ≡ (has a q || ((at x q || at (s - x) q) || (at y q || at (s - y) q)))
  gathered_twice a b c x y h k one two three four e₁ e₂ e₃ e₄ p p' q =
      (g.adds b c three four p').each q ∙ ap₂ ◌||◌ ((g.adds a b one two p).each q ∙ ap (λ u. has a q || u) (one-of x h one two e₁ e₂ q)) (one-of y k three four e₃ e₄ q)
      ∙ or_assoc (has a q) (at x q || at (s - x) q) (at y q || at (s - y) q)

-- ── what is asked for at the words of a mask only ──
module _ (f : ℕ → ℕ → Bool) (s w : ℕ) where
  pub joined_none : w ≡ 0 → Joined (λ x q. bit q w && f x q) s 0
  joined_none z = record {
    found = λ q o. absurd (true≢false (sym o ∙ bit_of_zero q));
    each = λ q x p o. absurd (true≢false (sym (and_split (bit q w) (f x q) o).0 ∙ ap (bit q) z ∙ bit_of_zero q));
  }

  pub joined_masked : (r : ℕ) → Joined f s r → Joined (λ x q. bit q w && f x q) s (bit_and r w)
  joined_masked r j = record {
    found = λ q o. let k = and_split (bit q r) (bit q w) (sym (bit-and q r w) ∙ o) in let (x, p, h) = j.found q k.0 in (x, p, and-join (bit q w) (f x q) k.1 h);
    each = λ q x p o. let k = and_split (bit q w) (f x q) o in bit-and q r w ∙ and-join (bit q r) (bit q w) (j.each q x p k.1) k.0;
  }

-- where users matter at no word of the mask, they need not be compared
pub any-user : (j anyone m ok : Bool) → (j && anyone) ≡ j → (j && m) ≡ (j && (m && (ok || anyone)))
any-user true anyone m ok e = rw e (sym (ap (λ b. m && b) (or-true ok) ∙ and-true m))
any-user false anyone m ok e = refl

-- at the words of `joint`, what counts is what is allowed
pub where-counted : (q joint anyone : ℕ) (m ok : Bool) → (bit q joint && (m && bit q (cond ok joint anyone))) ≡ (bit q joint && (m && (ok || bit q anyone)))
where-counted q joint anyone m true = absorbed (bit q joint) m
  where
    absorbed : (j m : Bool) → (j && (m && j)) ≡ (j && (m && true))
    absorbed true m = refl
    absorbed false m = refl
where-counted q joint anyone m false = refl
