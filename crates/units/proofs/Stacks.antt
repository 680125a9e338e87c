-- The row of terms in bits: what one word more makes of it, and the one term at the end.
use mathlib.Core.Path.{◌≡◌, refl, sym, ◌∙◌, ap}
use mathlib.Core.Logic.{◌⊎◌, inl, inr}
use mathlib.Core.Bool.{Bool, true, false, not, ◌&&◌, ◌||◌, and-true, and-false, and_assoc}
use mathlib.Core.List.{List, [], ◌∷◌, ◌++◌, map, append_assoc, append-nil}
use mathlib.Core.Option.{Option, some, none}
use Rattle.std.specs.Prelude.{Option as Maybe, Some, None}
use Rattle.std.proofs.lemmas.List.{nil_from_length}
use Prim.Native.Nat.{ℕ, zero, suc, ◌+◌, ◌/◌, ◌^◌, ◌≤◌, ◌<◌}
use native.Mathlib.Nat.{div-one, zero-div}
use native.Mathlib.Numerals.{one-add}
use native.Mathlib.Omega.{arith}
use lib.Dec.{eqb}
use lib.ListN.{length, drop, length-append, length-map}
use lib.Pow.{shr-shr}
use borrow.Author.Tests.{eq-eqb, ne_eqb}
use Rattle.soda.specs.Bits.{bit, number}
use Rattle.soda.specs.Lists.{all}
use Rattle.soda.specs.Terms.{Op, either, both, together, apart, Term, everyone, role, set, ¬ᵗ◌, ◌⁺, bin, unit, well_formed, subterms}
use Rattle.soda.specs.Roles.{meets_not, meets}
use Rattle.soda.proofs.Bits.{digit_lt, bit-number}
use Rattle.soda.proofs.Terms.{size_pos, subterms-length}
use Rattle.policy.specs.Words.{Kind, bad, everyone_k, role_k, set_k, not_k, plus_k, op_k, kind, operand, kind_of, lift2, push, row, single, decode}
use Rattle.policy.specs.Masks.{put_of}
use Rattle.units.specs.Private.{placed_of, over_of, both_of, step_of, analysis_in}
use Rattle.units.specs.declared.terms.Stack.{Stack}
use Rattle.units.specs.declared.terms.Analysis.{Analysis}
use Rattle.policy.proofs.Masks.{put_is}

-- the terms that begin at the words of a row of terms, one for each word
abbrev under : List Term → List Term
under [] = []
under (φ ∷ ts) = subterms φ ++ under ts

-- whether each term of a row is a unit term, and the bit above
abbrev topped : List Term → List Bool
topped ts = map unit ts ++ (true ∷ [])

-- what is kept of a row of terms, for a user u who holds the roles of the set h
abbrev pub stack_of : ℕ → ℕ → List Term → Stack
stack_of u h ts = record {
  unit = number (topped ts);
  met = number (map (λ φ. meets φ u h) ts);
  formed = all well_formed ts;
  units = number (map unit (under ts));
  noted = number (map (λ φ. unit φ && meets φ u h) (under ts));
}

-- the first n bits taken away
taken : (n : ℕ) (l : List Bool) → number l / 2 ^ n ≡ number (drop n l)
taken zero l = div-one (number l)
taken (suc n) [] = zero-div (2 ^ suc n)
taken (suc n) (b ∷ l) =
    let e : number (b ∷ l) / 2 ^ 1 ≡ number l = omega (arith, digit_lt b) in
    ap (λ (k : ℕ). number (b ∷ l) / 2 ^ k) (sym (one-add n)) ∙ sym (shr-shr (number (b ∷ l)) 1 n) ∙ ap (λ (k : ℕ). k / 2 ^ n) e ∙ taken n l

few : (ts : List Term) → length ts ≤ length (under ts)
few [] = omega arith
few (φ ∷ ts) = omega (arith, length-append (subterms φ) (under ts), subterms-length φ, size_pos φ, few ts)

-- the bit above is there
above : (ts : List Term) → 1 ≤ number (topped ts)
above [] = omega arith
above (φ ∷ ts) = omega (arith, above ts)

-- ── a missing term ──
-- a row with a term missing: it stays so, whatever stands before it
data Holed : List (Option Term) → Type 0 where
  here : {ts : List (Option Term)} → Holed (none ∷ ts)
  later : {t : Option Term} {ts : List (Option Term)} → Holed ts → Holed (t ∷ ts)

lacks_second : (op : Op) (t : Option Term) → lift2 op t none ≡ none
lacks_second op none = refl
lacks_second op (some φ) = refl

holed_push : (K : Kind) (x : ℕ) {ts : List (Option Term)} → Holed ts → Holed (push K x ts)
holed_push bad x p = later p
holed_push everyone_k x p = later p
holed_push role_k x p = later p
holed_push set_k x p = later p
holed_push not_k x here = here
holed_push not_k x (later p) = later p
holed_push plus_k x here = here
holed_push plus_k x (later p) = later p
holed_push (op_k op) x here = here
holed_push (op_k op) x (later {t} here) = rw (lacks_second op t) here
holed_push (op_k op) x (later (later p)) = later p

holed_row : (front ws : List ℕ) → Holed (row ws) → Holed (row (front ++ ws))
holed_row [] ws p = p
holed_row (w ∷ front) ws p = holed_push (kind_of (kind w)) (operand w) (holed_row front ws p)

holed_single : {ts : List (Option Term)} → Holed ts → single ts ≡ none
holed_single (here {ts = []}) = refl
holed_single (here {ts = t ∷ ts}) = refl
holed_single (later here) = refl
holed_single (later (later p)) = refl

-- ── one word more ──
one_side : (a b c : Bool) → ((b && c) && a) ≡ ((a && b) && c)
one_side true b c = and-true (b && c)
one_side false b c = and-false (b && c)

module _ (u h : ℕ) where
  abbrev met : Term → Bool
  met φ = meets φ u h

  -- the terms after a word, what is kept of them, and the row that they are
  record Next (ts : List Term) (s : Maybe Stack) (pushed : List (Option Term)) : Type 0 where
    terms : List Term
    kept : s ≡ Some (stack_of u h terms)
    are : pushed ≡ map some terms
    long : length (under terms) ≡ 1 + length (under ts)

  -- a row, or none where a term is missing
  abbrev Stepped : List Term → Maybe Stack → List (Option Term) → Type 0
  Stepped ts s pushed = Next ts s pushed ⊎ ((s ≡ None) × Holed pushed)

  -- the term φ in the place of the first n terms
  module _ (n : ℕ) (φ : Term) (ts rest : List Term) (short : length (under ts) ≤ 30) (terms : φ ∷ under ts ≡ under (φ ∷ rest))
      (left : drop n (topped ts) ≡ topped rest) (left-met : drop n (map met ts) ≡ map met rest)
      (formed : (all well_formed ts && (not (eqb n 1) || bit 0 (number (topped ts)))) ≡ all well_formed (φ ∷ rest)) where
    fewer : length rest ≤ 30
    fewer = omega (arith, few (φ ∷ rest), ap length terms)

    behind : number (topped ts) / 2 ^ n ≡ number (topped rest)
    behind = taken n (topped ts) ∙ ap number left

    units : put_of (number (topped ts) / 2 ^ n) (unit φ) ≡ number (topped (φ ∷ rest))
    units =
        ap (λ (k : ℕ). put_of k (unit φ)) behind
        ∙ put_is (unit φ) (topped rest) (omega (arith, fewer, length-append (map unit rest) (true ∷ []), length-map rest unit))

    mets : put_of (number (map met ts) / 2 ^ n) (met φ) ≡ number (map met (φ ∷ rest))
    mets =
        ap (λ (k : ℕ). put_of k (met φ)) (taken n (map met ts) ∙ ap number left-met)
        ∙ put_is (met φ) (map met rest) (omega (arith, fewer, length-map rest met))

    words : (f : Term → Bool) → put_of (number (map f (under ts))) (f φ) ≡ number (map f (under (φ ∷ rest)))
    words f =
        put_is (f φ) (map f (under ts)) (omega (arith, length-map (under ts) f)) ∙ ap (λ (l : List Term). number (map f l)) terms

    placed_is : placed_of (stack_of u h ts) n (unit φ) (met φ) ≡ stack_of u h (φ ∷ rest)
    placed_is = λ i. record {
      unit = units i;
      met = mets i;
      formed = formed i;
      units = words unit i;
      noted = words (λ ψ. unit ψ && met ψ) i;
    }

    over_is : over_of (stack_of u h ts) n (unit φ) (met φ) ≡ Some (stack_of u h (φ ∷ rest))
    over_is = rw (ne_eqb (number (topped ts) / 2 ^ n) 0 (λ z. omega (arith, z, behind, above rest))) (ap Some placed_is)

    next : {s : Maybe Stack} → s ≡ over_of (stack_of u h ts) n (unit φ) (met φ) → Stepped ts s (some φ ∷ map some rest)
    next p = inl (record { terms = φ ∷ rest; kept = p ∙ over_is; are = refl; long = omega (arith, ap length terms) })

  -- the sides' bits
  lowest : (b : Bool) (l : List Bool) → bit 0 (number (b ∷ l)) ≡ b
  lowest b l = bit-number (b ∷ l) 0

  second : (a b : Bool) (l : List Bool) → bit 1 (number (a ∷ b ∷ l)) ≡ b
  second a b l = bit-number (a ∷ b ∷ l) 1

  -- a term of one word
  leaf : (φ : Term) (ts : List Term) → length (under ts) ≤ 30 → φ ∷ under ts ≡ under (φ ∷ ts) → well_formed φ ≡ true
      → Stepped ts (over_of (stack_of u h ts) 0 (unit φ) (met φ)) (some φ ∷ map some ts)
  leaf φ ts l t f = next 0 φ ts ts l t refl refl (and-true (all well_formed ts) ∙ ap (λ (b : Bool). b && all well_formed ts) (sym f)) refl

  -- the term χ over the side φ
  module _ (χ φ : Term) (ts : List Term) (l : length (under (φ ∷ ts)) ≤ 30) (words : χ ∷ under (φ ∷ ts) ≡ under (χ ∷ ts))
      (formed : well_formed χ ≡ (unit φ && well_formed φ)) where
    over_one : {s : Maybe Stack} → s ≡ over_of (stack_of u h (φ ∷ ts)) 1 (unit χ) (met χ) → Stepped (φ ∷ ts) s (some χ ∷ map some ts)
    over_one = next 1 χ (φ ∷ ts) ts l words refl refl
        (ap (λ (b : Bool). all well_formed (φ ∷ ts) && b) (lowest (unit φ) (topped ts))
        ∙ one_side (unit φ) (well_formed φ) (all well_formed ts)
        ∙ ap (λ (b : Bool). b && all well_formed ts) (sym formed))

  -- between two sides
  module _ (φ ψ : Term) (ts : List Term) (l : length (under (φ ∷ ψ ∷ ts)) ≤ 30) where
    abbrev two : Stack
    two = stack_of u h (φ ∷ ψ ∷ ts)

    between : (op : Op) {s : Maybe Stack} → s ≡ over_of two 2 (unit (bin op φ ψ)) (met (bin op φ ψ))
        → Stepped (φ ∷ ψ ∷ ts) s (some (bin op φ ψ) ∷ map some ts)
    between op = next 2 (bin op φ ψ) (φ ∷ ψ ∷ ts) ts l (ap (λ (l : List Term). bin op φ ψ ∷ l) (sym (append_assoc (subterms φ) (subterms ψ) (under ts)))) refl refl
        (and-true (all well_formed (φ ∷ ψ ∷ ts)) ∙ sym (and_assoc (well_formed φ) (well_formed ψ) (all well_formed ts)))

    -- f joins what the user meets of the sides
    bits_are : (f : Bool → Bool → Bool) → over_of two 2 (both_of two.unit) (f (bit 0 two.met) (bit 1 two.met))
        ≡ over_of two 2 (unit φ && unit ψ) (f (met φ) (met ψ))
    bits_are f =
        let a = lowest (unit φ) (topped (ψ ∷ ts)) in
        let b = second (unit φ) (unit ψ) (topped ts) in
        let x = lowest (met φ) (map met (ψ ∷ ts)) in
        let y = second (met φ) (met ψ) (map met ts) in
        λ i. over_of two 2 (a i && b i) (f (x i) (y i))

    by_op : (op : Op) (x : ℕ) → Stepped (φ ∷ ψ ∷ ts) (step_of u h two (op_k op) x) (some (bin op φ ψ) ∷ map some ts)
    by_op either x = between either (bits_are (λ a b. a || b))
    by_op both x = between both (bits_are (λ a b. a && b))
    by_op together x = between together refl
    by_op apart x = between apart refl

  -- with one side, or none
  low : (ts : List Term) → length ts < 2 → eqb (number (topped ts) / 2 ^ 2) 0 ≡ true
  low [] l = refl
  low (φ ∷ []) l = eq-eqb (number (topped (φ ∷ [])) / 2 ^ 2) 0 (omega (arith, digit_lt (unit φ)))
  low (φ ∷ ψ ∷ ts) l = absurd (omega arith)

  lone : (op : Op) (x : ℕ) (ts : List Term) → length ts < 2 → step_of u h (stack_of u h ts) (op_k op) x ≡ None
  lone either x ts l = rw (low ts l)
  lone both x ts l = rw (low ts l)
  lone together x ts l = rw (low ts l)
  lone apart x ts l = rw (low ts l)

  stepped : (K : Kind) (x : ℕ) (ts : List Term) → length (under ts) ≤ 30 → Stepped ts (step_of u h (stack_of u h ts) K x) (push K x (map some ts))
  stepped bad x ts l = inr (refl, here)
  stepped everyone_k x ts l = leaf everyone ts l refl refl
  stepped role_k x ts l = leaf (role x) ts l refl refl
  stepped set_k x ts l = leaf (set x) ts l refl refl
  stepped not_k x [] l = inr (refl, here)
  stepped not_k x (φ ∷ ts) l =
      over_one (¬ᵗ φ) φ ts l refl refl (λ i. over_of (stack_of u h (φ ∷ ts)) 1 (lowest (unit φ) (topped ts) i) (meets_not h (lowest (met φ) (map met ts) i)))
  stepped plus_k x [] l = inr (refl, here)
  stepped plus_k x (φ ∷ ts) l = over_one (φ ⁺) φ ts l refl refl refl
  stepped (op_k op) x [] l = inr (lone op x [] (omega arith), here)
  stepped (op_k op) x (φ ∷ []) l = inr (lone op x (φ ∷ []) (omega arith), here)
  stepped (op_k op) x (φ ∷ ψ ∷ ts) l = by_op φ ψ ts l op x

-- ── the loop ──
module _ (u h : ℕ) (ws : List ℕ) where
  -- the words in front are left; those behind are a row of terms, and s is what is kept of it
  pub record Read (front : List ℕ) (s : Stack) : Type 0 where
    pub behind : List ℕ
    pub words : front ++ behind ≡ ws
    pub terms : List Term
    pub kept : s ≡ stack_of u h terms
    pub are : row behind ≡ map some terms
    pub long : length (under terms) ≡ length behind

  pub begin : Read ws (stack_of u h [])
  begin = record { behind = []; words = append-nil ws; terms = []; kept = refl; are = refl; long = refl }

  -- the last word in front, and what it makes of the row
  module _ {front : List ℕ} {s : Stack} (R : Read front s) (rest : List ℕ) (w : ℕ) (last : front ≡ rest ++ (w ∷ [])) (short : length ws ≤ 31)
      (after : Maybe Stack) (after_is : after ≡ step_of u h s (kind_of (kind w)) (operand w)) where
    all_words : rest ++ (w ∷ R.behind) ≡ ws
    all_words = sym (append_assoc rest (w ∷ []) R.behind) ∙ ap (λ (l : List ℕ). l ++ R.behind) (sym last) ∙ R.words

    few_words : 1 + length R.behind ≤ 31
    few_words = omega (arith, short, ap length all_words, length-append rest (w ∷ R.behind))

    pushed : row (w ∷ R.behind) ≡ push (kind_of (kind w)) (operand w) (map some R.terms)
    pushed = ap (push (kind_of (kind w)) (operand w)) R.are

    kept : after ≡ step_of u h (stack_of u h R.terms) (kind_of (kind w)) (operand w)
    kept = after_is ∙ ap (λ (s : Stack). step_of u h s (kind_of (kind w)) (operand w)) R.kept

    next_is : Stepped u h R.terms (step_of u h (stack_of u h R.terms) (kind_of (kind w)) (operand w)) (push (kind_of (kind w)) (operand w) (map some R.terms))
    next_is = stepped u h (kind_of (kind w)) (operand w) R.terms (omega (arith, R.long, few_words))

    pub stops : after ≡ None → decode ws ≡ none
    stops z = elim next_is [
      | inl N ↦ absurd (let k = kept in let m = N.kept in cc)
      | inr b ↦ rw (← all_words) (holed_single (holed_row rest (w ∷ R.behind) (rw pushed b.1)))
    ]

    pub goes_on : (t : Stack) → after ≡ Some t → Read rest t
    goes_on t z = elim next_is [
      | inl N ↦ record {
        behind = w ∷ R.behind;
        words = all_words;
        terms = N.terms;
        kept = let k = kept in let m = N.kept in cc;
        are = pushed ∙ N.are;
        long = omega (arith, N.long, R.long);
      }
      | inr b ↦ absurd (let k = kept in let m = b.0 in cc)
    ]

  -- ── the end: one term has one bit below the one above ──
  module _ {front : List ℕ} {s : Stack} (R : Read front s) (none_left : length front ≡ 0) where
    all_are : row ws ≡ map some R.terms
    all_are = ap row (sym R.words ∙ ap (λ (l : List ℕ). l ++ R.behind) (nil_from_length front none_left)) ∙ R.are

    bits : s.unit / 2 ^ 1 ≡ number (topped R.terms) / 2 ^ 1
    bits = ap (λ (s : Stack). s.unit / 2 ^ 1) R.kept

    pub more : (s.unit / 2 ^ 1 ≡ 1 → ⊥) → decode ws ≡ none
    more z = ap single all_are ∙ go R.terms (λ e. z (bits ∙ e))
      where
        go : (ts : List Term) → (number (topped ts) / 2 ^ 1 ≡ 1 → ⊥) → single (map some ts) ≡ none
        go [] n = refl
        go (φ ∷ []) n = absurd (n (taken 1 (topped (φ ∷ []))))
        go (φ ∷ ψ ∷ ts) n = refl

    pub one : s.unit / 2 ^ 1 ≡ 1 → ◌≡◌ {A = Maybe Analysis} (Some (record { formed = s.formed; units = s.units; noted = s.noted })) (analysis_in u h (decode ws))
    one z =
        rw R.kept (go R.terms (sym bits ∙ z))
        ∙ sym (ap (λ (ts : List (Option Term)). analysis_in u h (single ts)) all_are)
      where
        go : (ts : List Term) → number (topped ts) / 2 ^ 1 ≡ 1 → let s = stack_of u h ts in
            ◌≡◌ {A = Maybe Analysis} (Some (record { formed = s.formed; units = s.units; noted = s.noted })) (analysis_in u h (single (map some ts)))
        go [] e = absurd (omega arith)
        go (φ ∷ []) e = rw (append-nil (subterms φ), and-true (well_formed φ))
        go (φ ∷ ψ ∷ ts) e = absurd (omega (arith, taken 1 (topped (φ ∷ ψ ∷ ts)), above ts))
