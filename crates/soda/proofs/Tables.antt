-- Laws of the table: its rows over mapped lists, and, over what actions mean, one law for each row with no place in it.
use mathlib.Core.Path.{◌≡◌, refl, sym, ◌∙◌, ap, ap₂, fun_ext}
use mathlib.Core.Bool.{Bool, true, false, So, not, ◌&&◌, ◌||◌, cond, or_self, and_self}
use mathlib.Core.List.{List, [], ◌∷◌, map}
use Prim.Native.Nat.{ℕ, ◌+◌}
use lib.Dec.{eqb}
use Rattle.soda.specs.Lists.{any, all, splits, Split}
use Rattle.soda.specs.Terms.{Op, either, both, together, apart, Term, everyone, role, set, ¬ᵗ◌, ◌⁺, bin, unit_op, unit, size}
use Rattle.soda.specs.Tables.{single, several, acts, disjoint, join, table, Execution, met_by, judge}
use Rattle.soda.specs.Accuracy.{EmptySet}
use Rattle.soda.proofs.Bools.{never, and_split, and-join}
use Rattle.soda.proofs.Splits.{any-map, all_map, any-splits-map, split_in, split_out}

-- ── the rows ──
module _ {A : Type 0} (e : Bool) (f g : A → Bool) where
  single_or : (s : List A) → single e (λ a. f a || g a) s ≡ (single e f s || single e g s)
  single_or [] = sym (or_self e)
  single_or (a ∷ []) = refl
  single_or (a ∷ b ∷ s) = refl

  single-and : (s : List A) → single e (λ a. f a && g a) s ≡ (single e f s && single e g s)
  single-and [] = sym (and_self e)
  single-and (a ∷ []) = refl
  single-and (a ∷ b ∷ s) = refl

-- row "plus" is `all`, but for the empty list
module _ {A : Type 0} (f : A → Bool) where
  pub several-all : (e : Bool) (s : List A) → So (several e f s) → So (all f s)
  several-all e [] h = refl
  several-all e (a ∷ s) h = h

  pub all-several : (s : List A) → So (all f s) → So (several true f s)
  all-several [] h = refl
  all-several (a ∷ s) h = h

-- a judgement of lists of actions
abbrev pub Judgement : Type 0 → Type 0
Judgement A = List A → Bool

-- together and apart, taken apart and put together
module _ {A : Type 0} (user : A → ℕ) (f g : Judgement A) where
  -- the list falls into two, one part for each side
  pub record Halves (s : List A) : Type 0 where
    pub one : List A
    pub two : List A
    pub split : Split s one two
    pub for_one : So (f one)
    pub for_two : So (g two)

  pub together_out : (s : List A) → So (join user together f g s) → Halves s
  together_out s h =
      let q = split_out (λ p. f p.0 && g p.1) s h in
      let k = and_split (f q.one) (g q.two) q.passes in
      record { one = q.one; two = q.two; split = q.split; for_one = k.0; for_two = k.1 }

  pub together_in : {s : List A} → Halves s → So (join user together f g s)
  together_in h = split_in (λ p. f p.0 && g p.1) h.split (and-join (f h.one) (g h.two) h.for_one h.for_two)

  pub apart_out : (s : List A) → So (join user apart f g s) → (h : Halves s) × So (disjoint user h.one h.two)
  apart_out s h =
      let q = split_out (λ p. disjoint user p.0 p.1 && (f p.0 && g p.1)) s h in
      let d = and_split (disjoint user q.one q.two) (f q.one && g q.two) q.passes in
      let k = and_split (f q.one) (g q.two) d.1 in
      (record { one = q.one; two = q.two; split = q.split; for_one = k.0; for_two = k.1 }, d.0)

  pub apart_in : {s : List A} (h : Halves s) → So (disjoint user h.one h.two) → So (join user apart f g s)
  apart_in h d = split_in (λ p. disjoint user p.0 p.1 && (f p.0 && g p.1)) h.split
      (and-join (disjoint user h.one h.two) (f h.one && g h.two) d (and-join (f h.one) (g h.two) h.for_one h.for_two))

-- the empty list falls into two empty ones
once : (b : Bool) → (b && b || false) ≡ b
once true = refl
once false = refl

join_empty : {A : Type 0} (user : A → ℕ) (op : Op) (f g : Judgement A) (e : Bool) → f [] ≡ e → g [] ≡ e → join user op f g [] ≡ e
join_empty user either f g e p q = ap₂ ◌||◌ p q ∙ or_self e
join_empty user both f g e p q = ap₂ ◌&&◌ p q ∙ and_self e
join_empty user together f g e p q = ap₂ (λ x y. (x && y) || false) p q ∙ once e
join_empty user apart f g e p q = ap₂ (λ x y. (x && y) || false) p q ∙ once e

pub empty_set : EmptySet
unfolding table
empty_set A user met e everyone i = refl
empty_set A user met e (role r) i = refl
empty_set A user met e (set m) i = refl
empty_set A user met e (¬ᵗ φ) i = refl
empty_set A user met e (φ ⁺) i = refl
empty_set A user met e (bin op φ ψ) i = go (unit (bin op φ ψ)) (empty_set A user met e φ (1 + i)) (empty_set A user met e ψ (1 + i + size φ))
  where
    go : (b : Bool) → table user met e φ (1 + i) [] ≡ e → table user met e ψ (1 + i + size φ) [] ≡ e
        → cond b e (join user op (table user met e φ (1 + i)) (table user met e ψ (1 + i + size φ)) []) ≡ e
    go true p q = refl
    go false p q = join_empty user op (table user met e φ (1 + i)) (table user met e ψ (1 + i + size φ)) e p q

-- ── mapped lists ──
module _ {A B : Type 0} (f : A → B) where
  single-map : (e : Bool) (g : B → Bool) (s : List A) → single e g (map f s) ≡ single e (λ a. g (f a)) s
  single-map e g [] = refl
  single-map e g (a ∷ []) = refl
  single-map e g (a ∷ b ∷ s) = refl

  several-map : (e : Bool) (g : B → Bool) (s : List A) → several e g (map f s) ≡ several e (λ a. g (f a)) s
  several-map e g [] = refl
  several-map e g (a ∷ s) = all_map f g (a ∷ s)

  -- Users are only compared with one another, so a map may rename them.
  abbrev pub SameUsers : (A → ℕ) → (B → ℕ) → Type 0
  SameUsers user user' = (a b : A) → eqb (user' (f a)) (user' (f b)) ≡ eqb (user a) (user b)

  module _ (user : A → ℕ) (user' : B → ℕ) (k : SameUsers user user') where
    disjoint_map : (s t : List A) → disjoint user' (map f s) (map f t) ≡ disjoint user s t
    disjoint_map s t = all_map f (λ b. not (acts user' (user' b) (map f t))) s
        ∙ ap (λ (g : A → Bool). all g s)
        (fun_ext (λ a. ap not (any-map f (λ b. eqb (user' b) (user' (f a))) t ∙ ap (λ (g : A → Bool). any g t) (fun_ext (λ b. k b a)))))

    join-map : (op : Op) (F G : Judgement B) (s : List A) → join user' op F G (map f s) ≡ join user op (λ m. F (map f m)) (λ m. G (map f m)) s
    join-map either F G s = refl
    join-map both F G s = refl
    join-map together F G s = any-splits-map f (λ p. F p.0 && G p.1) s
    join-map apart F G s = any-splits-map f (λ p. disjoint user' p.0 p.1 && (F p.0 && G p.1)) s
        ∙ ap (λ (g : List A × List A → Bool). any g (splits s))
        (fun_ext (λ p. ap (λ (b : Bool). b && (F (map f p.0) && G (map f p.1))) (disjoint_map p.0 p.1)))

-- The table over one kind of action is the table over another, where a map between them keeps what was met and who is the same user.
-- What is met is compared only at the unit terms that the table asks for: those of φ, whose first word stands at i in one table and
-- at j in the other.
module _ {A B : Type 0} (f : A → B) (met : Term → ℕ → A → Bool) (met' : Term → ℕ → B → Bool) where
  -- what a term asks for at places i and j
  abbrev pub Same : Term → ℕ → ℕ → Type 0
  Same everyone i j = (a : A) → met' everyone i (f a) ≡ met everyone j a
  Same (role r) i j = (a : A) → met' (role r) i (f a) ≡ met (role r) j a
  Same (set m) i j = (a : A) → met' (set m) i (f a) ≡ met (set m) j a
  Same (¬ᵗ φ) i j = (a : A) → met' (¬ᵗ φ) i (f a) ≡ met (¬ᵗ φ) j a
  Same (φ ⁺) i j = (a : A) → met' φ (1 + i) (f a) ≡ met φ (1 + j) a
  Same (bin op φ ψ) i j =
      (So (unit (bin op φ ψ)) → (a : A) → met' (bin op φ ψ) i (f a) ≡ met (bin op φ ψ) j a)
      × Same φ (1 + i) (1 + j) × Same ψ (1 + i + size φ) (1 + j + size φ)

  module _ (user : A → ℕ) (user' : B → ℕ) (k : SameUsers f user user') where
    pub table-map : (e : Bool) (φ : Term) (i j : ℕ) → Same φ i j → (s : List A) → table user' met' e φ i (map f s) ≡ table user met e φ j s
    unfolding table
    table-map e everyone i j h s = single-map f e (met' everyone i) s ∙ ap (λ g. single e g s) (fun_ext h)
    table-map e (role r) i j h s = single-map f e (met' (role r) i) s ∙ ap (λ g. single e g s) (fun_ext h)
    table-map e (set m) i j h s = single-map f e (met' (set m) i) s ∙ ap (λ g. single e g s) (fun_ext h)
    table-map e (¬ᵗ φ) i j h s = single-map f e (met' (¬ᵗ φ) i) s ∙ ap (λ g. single e g s) (fun_ext h)
    table-map e (φ ⁺) i j h s = several-map f e (met' φ (1 + i)) s ∙ ap (λ g. several e g s) (fun_ext h)
    table-map e (bin op φ ψ) i j h s =
        go (unit (bin op φ ψ)) refl (table-map e φ (1 + i) (1 + j) h.1) (table-map e ψ (1 + i + size φ) (1 + j + size φ) h.2)
      where
        go : (b : Bool) → unit (bin op φ ψ) ≡ b
            → ((m : List A) → table user' met' e φ (1 + i) (map f m) ≡ table user met e φ (1 + j) m)
            → ((m : List A) → table user' met' e ψ (1 + i + size φ) (map f m) ≡ table user met e ψ (1 + j + size φ) m)
            → cond b (single e (met' (bin op φ ψ) i) (map f s)) (join user' op (table user' met' e φ (1 + i)) (table user' met' e ψ (1 + i + size φ)) (map f s))
            ≡ cond b (single e (met (bin op φ ψ) j) s)
            (join user op (table user met e φ (1 + j)) (table user met e ψ (1 + j + size φ)) s)
        go true u p q = single-map f e (met' (bin op φ ψ) i) s ∙ ap (λ g. single e g s) (fun_ext (h.0 u))
        go false u p q = join-map f user user' k op (table user' met' e φ (1 + i)) (table user' met' e ψ (1 + i + size φ)) s
            ∙ ap₂ (λ (x y : Judgement A). join user op x y s) (fun_ext p) (fun_ext q)

-- ── over what actions mean ──
abbrev pub who : Execution → ℕ
who a = a.user

-- the table with the term's place, which plays no part
abbrev at_place : Bool → Term → ℕ → Judgement Execution
at_place e φ i = table who (λ ψ j. met_by ψ) e φ i

place : (e : Bool) (φ : Term) (i j : ℕ) (s : List Execution) → at_place e φ i s ≡ at_place e φ j s
unfolding table
place e everyone i j s = refl
place e (role r) i j s = refl
place e (set m) i j s = refl
place e (¬ᵗ φ) i j s = refl
place e (φ ⁺) i j s = refl
place e (bin op φ ψ) i j s =
    ap₂ (λ (f g : Judgement Execution). cond (unit (bin op φ ψ)) (single e (met_by (bin op φ ψ)) s) (join who op f g s))
    (fun_ext (place e φ (1 + i) (1 + j))) (fun_ext (place e ψ (1 + i + size φ) (1 + j + size φ)))

-- row "unit"
pub judge-unit : (e : Bool) (φ : Term) → So (unit φ) → (s : List Execution) → judge e φ s ≡ single e (met_by φ) s
unfolding table
judge-unit e everyone u s = refl
judge-unit e (role r) u s = refl
judge-unit e (set m) u s = refl
judge-unit e (¬ᵗ φ) u s = refl
judge-unit e (φ ⁺) u s = never u
judge-unit e (bin op φ ψ) u s = rw u

-- a not goes by row "unit" whatever it stands over
pub not-row : (e : Bool) (φ : Term) (s : List Execution) → judge e (¬ᵗ φ) s ≡ single e (met_by (¬ᵗ φ)) s
unfolding table
not-row e φ s = refl

-- row "plus"
pub judge-plus : (e : Bool) (φ : Term) (s : List Execution) → judge e (φ ⁺) s ≡ several e (met_by φ) s
unfolding table
judge-plus e φ s = refl

unit-join : (e : Bool) (op : Op) (φ ψ : Term) (s : List Execution) → So (unit_op op)
    → single e (met_by (bin op φ ψ)) s ≡ join who op (single e (met_by φ)) (single e (met_by ψ)) s
unit-join e either φ ψ s u = single_or e (met_by φ) (met_by ψ) s
unit-join e both φ ψ s u = single-and e (met_by φ) (met_by ψ) s
unit-join e together φ ψ s u = never u
unit-join e apart φ ψ s u = never u

-- rows "either" to "apart": they hold for unit terms too
pub judge-bin : (e : Bool) (op : Op) (φ ψ : Term) (s : List Execution) → judge e (bin op φ ψ) s ≡ join who op (judge e φ) (judge e ψ) s
unfolding table
judge-bin e op φ ψ s = go (unit (bin op φ ψ)) refl
  where
    go : (b : Bool) → unit (bin op φ ψ) ≡ b
        → cond b (single e (met_by (bin op φ ψ)) s) (join who op (at_place e φ (1 + 0)) (at_place e ψ (1 + 0 + size φ)) s) ≡ join who op (judge e φ) (judge e ψ) s
    go true u =
        let x = and_split (unit_op op) (unit φ && unit ψ) u in
        let y = and_split (unit φ) (unit ψ) x.1 in
        unit-join e op φ ψ s x.0
        ∙ sym (ap₂ (λ (f g : Judgement Execution). join who op f g s) (fun_ext (judge-unit e φ y.0)) (fun_ext (judge-unit e ψ y.1)))
    go false u = ap₂ (λ (f g : Judgement Execution). join who op f g s) (fun_ext (place e φ (1 + 0) 0)) (fun_ext (place e ψ (1 + 0 + size φ) 0))
