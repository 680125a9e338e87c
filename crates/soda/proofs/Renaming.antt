-- A user who acts nowhere else can be renamed: exchanging two users keeps who is the same user, and alters no action of anybody else.
use mathlib.Core.Path.{◌≡◌, refl, sym, ◌∙◌, ap, ap₂}
use mathlib.Core.Bool.{Bool, true, false, ◌||◌, cond, true≢false}
use mathlib.Core.List.{List, [], ◌∷◌, ◌++◌, map, map-append}
use Prim.Native.Nat.{ℕ, ◌+◌}
use lib.Dec.{eqb}
use Rattle.soda.specs.Bits.{bit}
use Rattle.soda.specs.Terms.{Term, everyone, role, set, ¬ᵗ◌, ◌⁺, bin, size}
use Rattle.soda.specs.Tables.{acts, bit_table}
use Rattle.soda.specs.Laws.{NewUserIsRenamed}
use Rattle.soda.specs.declared.Action.{Action}
use Rattle.soda.proofs.Bools.{by_test, same_test, eq_so, so_eq}
use Rattle.soda.proofs.Tables.{Same, table-map}

module _ (u v : ℕ) where
  -- u and v exchanged
  abbrev exchanged : ℕ → ℕ
  exchanged x = cond (eqb x u) v (cond (eqb x v) u x)

  from_u : exchanged u ≡ v
  from_u = ap (λ b. cond b v (cond (eqb u v) u u)) (eq_so u u refl)

  from_v : exchanged v ≡ u
  from_v = by_test (eqb v u) (λ p. ap (λ b. cond b v (cond (eqb v v) u v)) p ∙ so_eq v u p)
      (λ p. ap₂ (λ b c. cond b v (cond c u v)) p (eq_so v v refl))

  from-other : (x : ℕ) → eqb x u ≡ false → eqb x v ≡ false → exchanged x ≡ x
  from-other x p q = ap₂ (λ b c. cond b v (cond c u x)) p q

  twice : (x : ℕ) → exchanged (exchanged x) ≡ x
  twice x = by_test (eqb x u)
      (λ p. let e = so_eq x u p in ap (λ y. exchanged (exchanged y)) e ∙ ap exchanged from_u ∙ from_v ∙ sym e)
      (λ p. by_test (eqb x v)
      (λ q. let e = so_eq x v q in ap (λ y. exchanged (exchanged y)) e ∙ ap exchanged from_v ∙ from_u ∙ sym e)
      (λ q. ap exchanged (from-other x p q) ∙ from-other x p q))

  same-user : (x y : ℕ) → eqb (exchanged x) (exchanged y) ≡ eqb x y
  same-user x y = same_test (eqb (exchanged x) (exchanged y)) (eqb x y)
      (λ p. eq_so x y (sym (twice x) ∙ ap exchanged (so_eq (exchanged x) (exchanged y) p) ∙ twice y))
      (λ p. eq_so (exchanged x) (exchanged y) (ap exchanged (so_eq x y p)))

  renamed : Action → Action
  renamed a = record { user = exchanged a.user; met = a.met }

  -- it alters no action of anybody else
  kept : (l : List Action) → acts (λ a. a.user) u l ≡ false → acts (λ a. a.user) v l ≡ false → map renamed l ≡ l
  unfolding renamed
  kept [] p q = refl
  kept (a ∷ l) p q =
      let (x, ps) = neither (eqb a.user u) (acts (λ b. b.user) u l) p in
      let (y, qs) = neither (eqb a.user v) (acts (λ b. b.user) v l) q in
      ap₂ (λ n m. record { user = n; met = a.met } ∷ m) (from-other a.user x y) (kept l ps qs)
    where
      neither : (b c : Bool) → (b || c) ≡ false → (b ≡ false) × (c ≡ false)
      neither true c e = absurd (true≢false e)
      neither false c e = (refl, e)

  -- nor what was met
  same_bits : (φ : Term) (i : ℕ) → Same renamed (λ ψ j a. bit j a.met) (λ ψ j a. bit j a.met) φ i i
  unfolding renamed
  same_bits everyone i = λ a. refl
  same_bits (role r) i = λ a. refl
  same_bits (set m) i = λ a. refl
  same_bits (¬ᵗ φ) i = λ a. refl
  same_bits (φ ⁺) i = λ a. refl
  same_bits (bin op φ ψ) i = (λ b a. refl, same_bits φ (1 + i), same_bits ψ (1 + i + size φ))

pub new-user-is_renamed : NewUserIsRenamed
unfolding renamed
new-user-is_renamed e φ i l u v met p q =
    sym (table-map (renamed u v) (λ ψ j a. bit j a.met) (λ ψ j a. bit j a.met) (λ a. a.user) (λ a. a.user) (λ a b. same-user u v a.user b.user)
    e φ i i (same_bits u v φ i) (l ++ (record { user = u; met = met } ∷ [])))
    ∙ ap (bit_table (λ a. a.user) (λ a. a.met) e φ i) (map-append (renamed u v) l (record { user = u; met = met } ∷ []) ∙ ap₂ (λ m n. m ++ (record { user = n; met = met } ∷ [])) (kept u v l p q) (from_u u v))
