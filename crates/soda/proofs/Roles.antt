-- A grant adds one pair to the user assignment, a revocation removes one (document 004, Definition 4).
use mathlib.Core.Path.{◌≡◌, refl, sym, ap, ◌∙◌}
use mathlib.Core.Bool.{Bool, true, false, So, not, ◌&&◌, ◌||◌, cond, true≢false}
use Prim.Native.Nat.{ℕ, zero, suc, ◌<◌}
use native.Mathlib.Omega.{arith}
use lib.Dec.{eqb}
use lib.ListN.{length, set as put}
use lib.Seq.{get_or-set_same, get_or-set_other}
use lib.Pow.{pow_pos}
use Rattle.soda.specs.Bits.{bit, set_bit, clear_bit}
use Rattle.soda.specs.Roles.{UA, roles}
use Rattle.soda.specs.Accuracy.{GrantAddsOne, RevokeRemovesOne, SomeRole}
use Rattle.soda.proofs.Bools.{so_eq, eq_so, not_so}
use Rattle.soda.proofs.Bits.{bit_le, some-bit, bit-set_bit, bit-clear_bit}

-- one row changed
row_put : (ua : UA) (u h : ℕ) → u < length ua → (v s : ℕ) → bit s (roles (put ua u h) v) ≡ cond (eqb v u) (bit s h) (bit s (roles ua v))
row_put ua u h l v s = go (eqb v u) refl
  where
    go : (b : Bool) → eqb v u ≡ b → bit s (roles (put ua u h) v) ≡ cond b (bit s h) (bit s (roles ua v))
    go true e = ap (λ y. bit s (roles (put ua u h) y)) (so_eq v u e) ∙ ap (bit s) (get_or-set_same ua u h 0 l)
    go false e = ap (bit s) (get_or-set_other ua u v h 0 (λ p. true≢false (sym (eq_so v u p) ∙ e)))

pub grant_adds_one : GrantAddsOne
grant_adds_one ua u r l v s = row_put ua u (set_bit r (roles ua u)) l v s ∙ go (eqb v u) refl
  where
    go : (b : Bool) → eqb v u ≡ b → cond b (bit s (set_bit r (roles ua u))) (bit s (roles ua v)) ≡ ((b && eqb s r) || bit s (roles ua v))
    go true e = bit-set_bit r s (roles ua u) ∙ ap (λ y. eqb s r || bit s (roles ua y)) (sym (so_eq v u e))
    go false e = refl

pub revoke_removes_one : RevokeRemovesOne
revoke_removes_one ua u r l v s = row_put ua u (clear_bit r (roles ua u)) l v s ∙ go (eqb v u) refl
  where
    go : (b : Bool) → eqb v u ≡ b → cond b (bit s (clear_bit r (roles ua u))) (bit s (roles ua v)) ≡ (not (b && eqb s r) && bit s (roles ua v))
    go true e = bit-clear_bit r s (roles ua u) ∙ ap (λ y. not (eqb s r) && bit s (roles ua y)) (sym (so_eq v u e))
    go false e = refl

held : (h : ℕ) → So (not (eqb h 0)) → (r : ℕ) × So (bit r h)
held zero t = absurd (true≢false (sym t))
held (suc h) t = some-bit (suc h) (suc h) (omega arith) (omega arith)

pub some-role : SomeRole
some-role ua u = (held (roles ua u), λ x. ap not (not_so (eqb (roles ua u) 0) (λ z. empty x (so_eq (roles ua u) 0 z))))
  where
    empty : (r : ℕ) × So (bit r (roles ua u)) → roles ua u ≡ 0 → ⊥
    empty x z = let k = bit_le x.0 (roles ua u) x.1 in let w = pow_pos x.0 in omega arith
