-- What stands at a text's beginning: bytes that are found are there, and bytes that are there are found.
use mathlib.Core.Path.{◌≡◌, refl}
use mathlib.Core.Logic.{◌⊎◌, inl, inr, ⊎_elim}
use mathlib.Core.List.{List, [], ◌∷◌, ◌++◌}
use mathlib.Core.Option.{Option, some, none, none-ne-some}
use Prim.Native.Nat.{ℕ}
use borrow.Author.Tests.{eqb-true, eq-eqb}
use lib.Dec.{eqb}
use Rattle.soda.proofs.Bools.{by_test}
use Rattle.text.specs.Grammar.{upon, or_else, behind, keyword}

-- ── what was found ──
module _ {A B : Type 0} where
  pub upon-some : (o : Option A) (f : A → Option B) (b : B) → upon o f ≡ some b → (a : A) × (o ≡ some a) × (f a ≡ some b)
  upon-some none f b e = absurd (none-ne-some b e)
  upon-some (some a) f b e = (a, refl, e)

module _ {A : Type 0} where
  pub or_else-some : (o p : Option A) (a : A) → or_else o p ≡ some a → (o ≡ some a) ⊎ (p ≡ some a)
  or_else-some none p a e = inr e
  or_else-some (some b) p a e = inl e

-- ── bytes ──
pub behind_append : (bs rest : List ℕ) → behind bs (bs ++ rest) ≡ some rest
behind_append [] rest = refl
behind_append (b ∷ bs) rest = rw (eq-eqb b b refl) (behind_append bs rest)

pub behind-some : (bs t rest : List ℕ) → behind bs t ≡ some rest → t ≡ bs ++ rest
behind-some [] t rest e = cc
behind-some (b ∷ bs) [] rest e = absurd (none-ne-some rest e)
behind-some (b ∷ bs) (c ∷ t) rest e = by_test (eqb c b)
    (λ q. let z : behind bs t ≡ some rest = rw q at e in let y = behind-some bs t rest z in let x = eqb-true c b q in cc)
    λ q. absurd (none-ne-some rest (rw q at e))

-- ── what holds of all that is found ──
pub record Finds {A : Type 0} (o : Option A) (P : A → Type 0) : Type 0 where
  pub has : (a : A) → o ≡ some a → P a

module _ {A B : Type 0} {o : Option A} {f : A → Option B} {P : A → Type 0} {Q : B → Type 0} where
  pub finds_upon : Finds o P → ((a : A) → P a → Finds (f a) Q) → Finds (upon o f) Q
  finds_upon p g = record { has = λ b e. let (a, x, y) = upon-some o f b e in (g a (p.has a x)).has b y }

module _ {A : Type 0} {P : A → Type 0} where
  pub finds_or : {o p : Option A} → Finds o P → Finds p P → Finds (or_else o p) P
  finds_or {o} {p} x y = record { has = λ a e. ⊎_elim (x.has a) (y.has a) (or_else-some o p a e) }

  pub finds_none : Finds {A = A} none P
  finds_none = record { has = λ a e. absurd (none-ne-some a e) }

  pub finds_weaker : {Q : A → Type 0} {o : Option A} → Finds o P → ((a : A) → P a → Q a) → Finds o Q
  finds_weaker p f = record { has = λ a e. f a (p.has a e) }

  pub finds_one : {a : A} → P a → Finds (some a) P
  finds_one {a} p = record { has = λ b e. let z : a ≡ b = cc in rw z at p }

-- bytes, and what is found behind them
pub finds_behind : {A : Type 0} {P : A → Type 0} (bs t : List ℕ) {f : List ℕ → Option A}
    → ((rest : List ℕ) → t ≡ bs ++ rest → Finds (f rest) P) → Finds (upon (behind bs t) f) P
finds_behind bs t g = finds_upon (record { has = behind-some bs t }) g

pub finds_keyword : {A : Type 0} {P : A × List ℕ → Type 0} (bs : List ℕ) (a : A) (t : List ℕ)
    → ((rest : List ℕ) → t ≡ bs ++ rest → P (a, rest)) → Finds (keyword bs a t) P
finds_keyword bs a t g = finds_behind bs t (λ rest e. finds_one (g rest e))
