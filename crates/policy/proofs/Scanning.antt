-- What the reader answers at the words, by the first word's kind and the answers for its sides.
use Rattle.std.proofs.Common.{◌≡◌, ℕ, zero, suc, ◌+◌, ◌*◌, ◌%◌, ◌^◌, ◌<◌, ◌≤◌, Bool, false, cond, ◌&&◌, eqb, ltb, leb, List, [], ◌∷◌, ◌++◌, map, length, get_or, drop, sym, refl, ap, ◌∙◌, ap₂, inl, inr, true≢false, arith, length-append, drop-drop, eq-eqb, ne_eqb, leb-true, Some, None}
use mathlib.Core.Bool.{So}
use mathlib.Core.List.{map-append}
use mathlib.Core.Option.{Option, some, none}
use Rattle.std.proofs.lemmas.Option.{none-some}
use lib.Bits.{bit_or}
use lib.ListN.{length-map}
use Rattle.soda.specs.Bits.{number}
use Rattle.soda.specs.Lists.{from}
use Rattle.soda.specs.Terms.{Op, Term, bin, unit, well_formed, size, subterms, marks}
use Rattle.soda.specs.Words.{op_kind}
use Rattle.soda.proofs.Bools.{and_split}
use Rattle.soda.proofs.Lists.{from-drop}
use Rattle.soda.proofs.Terms.{subterms-length}
use Rattle.policy.specs.Words.{kind, operand, sides, known, kind_of, head, tail, push, row, first, decode}
use Rattle.policy.specs.Reading.{count_ok}
use Rattle.policy.specs.Accepted.{CountsInRange, LengthInRange}
use Rattle.policy.specs.Kinds.{TOGETHER}
use Rattle.policy.specs.Masks.{put_of}
use Rattle.policy.specs.Private.{all_known, read_of, first_in, over_side, beside_sides}
use Rattle.policy.specs.declared.reader.First.{First}
use Rattle.policy.proofs.Masks.{put_is, joined}
use Rattle.policy.proofs.Grammar.{unit_op_lem, Row, row1, row2, row3, row4, row5, row_op, Known, row_of, push_op, begins, row_begins, decode-first}

-- ── the tests of counts and length ──
in_range : (m n : ℕ) → So (leb 1 n && leb n m) → (1 ≤ n) × (n ≤ m)
in_range m n e = let s = and_split (leb 1 n) (leb n m) e in (leb-true 1 n s.0, leb-true n m s.1)

pub length-range : LengthInRange
length-range n e = in_range 31 n e

pub counts_most : CountsInRange
counts_most users roles e = let s = and_split (count_ok users) (count_ok roles) e in ((in_range 16 users s.0).1, (in_range 16 roles s.1).1)

-- ── words of known kinds ──
pub known_from : (n : ℕ) (ws : List ℕ) → So (all_known ws) → So (all_known (from n ws))
known_from n ws h = ap all_known (from-drop n ws) ∙ known-drop n ws h
  where
    known-drop : (n : ℕ) (ws : List ℕ) → So (all_known ws) → So (all_known (drop n ws))
    known-drop zero ws h = h
    known-drop (suc n) [] h = h
    known-drop (suc n) (w ∷ ws) h = known-drop n ws (and_split (known (kind w)) (all_known ws) h).1

known-first : (ws : List ℕ) → 0 < length ws → So (all_known ws) → So (known (kind (get_or ws 0 0)))
known-first [] h a = absurd (omega arith)
known-first (w ∷ ws) h a = (and_split (known (kind w)) (all_known ws) a).0

-- the first word is of kind k, which has n sides
pub record Word (ws : List ℕ) (k n : ℕ) : Type 0 where
  pub inside : 0 < length ws
  pub kind_row : Row k n
  pub is : first ws ≡ head (push (kind_of k) (operand (get_or ws 0 0)) (row (from 1 ws)))

first_word : (k : ℕ) (ws : List ℕ) → 0 < length ws → k ≡ kind (get_or ws 0 0)
    → first ws ≡ head (push (kind_of k) (operand (get_or ws 0 0)) (row (from 1 ws)))
first_word k [] h e = absurd (omega arith)
first_word k (w ∷ ws) h e = rw (e, from-drop 1 (w ∷ ws))

pub word-sided : (ws : List ℕ) (k n : ℕ) → 0 < length ws → So (all_known ws) → k ≡ kind (get_or ws 0 0) → n ≡ sides k → Word ws k n
word-sided ws k n i a e q = record { inside = i; kind_row = its_row (row_of k); is = first_word k ws i e }
  where
    its_row : Known k → Row k n
    its_row (inl r) = rw q r
    its_row (inr u) = absurd (true≢false (sym (ap known e ∙ known-first ws i a) ∙ u.0))

missing_second : {k : ℕ} → Row k 2 → (x : ℕ) (ts : List (Option Term)) (φ : Term) → head ts ≡ some φ → head (tail ts) ≡ none
    → head (push (kind_of k) x ts) ≡ none
missing_second (row_op op) x ts φ e d = rw (push_op op, e, d)

two-sides : {k n : ℕ} → Row k n → (n ≡ 0 → ⊥) → (n ≡ 1 → ⊥) → Row k 2
two-sides row1 z o = absurd (z refl)
two-sides row2 z o = absurd (z refl)
two-sides row3 z o = absurd (z refl)
two-sides row4 z o = absurd (o refl)
two-sides row5 z o = absurd (o refl)
two-sides (row_op op) z o = row_op op

-- the second side begins where the first ends
behind : (ws : List ℕ) (φ : Term) → first (from 1 ws) ≡ some φ → head (tail (row (from 1 ws))) ≡ first (from (1 + size φ) ws)
behind ws φ e =
    ap (λ (ts : List (Option Term)). head (tail ts)) (row_begins (begins (from 1 ws) φ e))
    ∙ ap first (ap (drop (size φ)) (from-drop 1 ws) ∙ drop-drop (size φ) 1 ws ∙ sym (from-drop (1 + size φ) ws))

-- ── the answers ──
found : (x : Option Term) (f : First) → Some f ≡ first_in x → (φ : Term) × (x ≡ some φ) × (f ≡ read_of φ)
found none f e = absurd (none-some f (sym e))
found (some φ) f e = (φ, refl, cc)

pub missing : (x : Option Term) → None ≡ first_in x → x ≡ none
missing none e = refl
missing (some φ) e = absurd (none-some (read_of φ) e)

-- what is read is of the term that the words begin with; they are that one term where it has all of them
pub record ReadOf (ws : List ℕ) (f : First) : Type 0 where
  pub φ : Term
  pub begun : first ws ≡ some φ
  pub is : f ≡ read_of φ
  pub one : f.words ≡ length ws → decode ws ≡ some φ
  pub more : (f.words ≡ length ws → ⊥) → decode ws ≡ none

pub whole : (ws : List ℕ) (f : First) → Some f ≡ first_in (first ws) → ReadOf ws f
whole ws f e =
    let r = found (first ws) f e in
    let d = decode-first ws r.0 r.1 ∙ ap (λ (f : First). cond (eqb f.words (length ws)) (some r.0) none) (sym r.2) in
    record { φ = r.0; begun = r.1; is = r.2; one = λ n. d ∙ rw (eq-eqb _ _ n); more = λ n. d ∙ rw (ne_eqb _ _ n) }

-- what is read of a word over its sides is what is read of the term
marked : (φ : Term) → length (map unit (subterms φ)) ≡ size φ
marked φ = length-map (subterms φ) unit ∙ subterms-length φ

over-units : (b : Bool) (φ : Term) → size φ ≤ 31 → put_of (marks unit φ) b ≡ number (b ∷ map unit (subterms φ))
over-units b φ h = put_is b (map unit (subterms φ)) (omega (arith, marked φ))

beside_units : (b : Bool) (φ ψ : Term) → size φ + size ψ ≤ 31
    → put_of (bit_or (marks unit ψ * 2 ^ size φ % 2 ^ 32) (marks unit φ)) b ≡ number (b ∷ map unit (subterms φ ++ subterms ψ))
beside_units b φ ψ h =
    let l = map unit (subterms φ) in
    let m = map unit (subterms ψ) in
    let e : bit_or (marks unit ψ * 2 ^ size φ % 2 ^ 32) (marks unit φ) ≡ number (l ++ m) =
    ap (λ (n : ℕ). bit_or (marks unit ψ * 2 ^ n % 2 ^ 32) (marks unit φ)) (sym (marked φ)) ∙ joined l m (omega (arith, marked φ, marked ψ)) in
    ap (λ (n : ℕ). put_of n b) e
    ∙ put_is b (l ++ m) (omega (arith, length-append l m, marked φ, marked ψ))
    ∙ ap (λ (k : List Bool). number (b ∷ k)) (sym (map-append unit (subterms φ) (subterms ψ)))

beside_is : (op : Op) (φ ψ : Term) → size φ + size ψ ≤ 31 → beside_sides (op_kind op) (read_of φ) (read_of ψ) ≡ read_of (bin op φ ψ)
beside_is op φ ψ h =
    let u : (ltb (op_kind op) TOGETHER && (unit φ && unit ψ)) ≡ unit (bin op φ ψ) = ap (λ (b : Bool). b && (unit φ && unit ψ)) (unit_op_lem op) in
    let n : 1 + size φ + size ψ ≡ size (bin op φ ψ) = omega arith in
    λ i. record {
      words = n i;
      unit = u i;
      formed = well_formed φ && well_formed ψ;
      units = (ap (λ (b : Bool). put_of (bit_or (marks unit ψ * 2 ^ size φ % 2 ^ 32) (marks unit φ)) b) u ∙ beside_units (unit (bin op φ ψ)) φ ψ h) i;
    }

-- the reader's answers, the first word being of kind k
module _ (ws : List ℕ) {k n : ℕ} (W : Word ws k n) where
  abbrev rest : List (Option Term)
  rest = row (from 1 ws)

  module _ (a : First) (A : Some a ≡ first_in (first (from 1 ws))) where
    side : (φ : Term) × (first (from 1 ws) ≡ some φ) × (a ≡ read_of φ)
    side = found (first (from 1 ws)) a A

    size_is : a.words ≡ size side.0
    size_is = ap (λ (f : First). f.words) side.2

    pub scan_one : n ≡ 1 → a.words ≤ 31 → Some (over_side k a) ≡ first_in (first ws)
    scan_one z h = ap (λ (f : First). Some (over_side k f)) side.2 ∙ rw W.is (go (rw z at W.kind_row))
      where
        short : size side.0 ≤ 31
        short = omega (arith, size_is)

        go : {j : ℕ} → Row j 1 → Some (over_side j (read_of side.0)) ≡ first_in (head (push (kind_of j) (operand (get_or ws 0 0)) rest))
        go row4 = rw side.1 λ i. Some (record {
          words = 1 + size side.0;
          unit = unit side.0;
          formed = unit side.0 && well_formed side.0;
          units = over-units (unit side.0) side.0 short i;
        })
        go row5 = rw side.1 λ i. Some (record {
          words = 1 + size side.0;
          unit = false;
          formed = unit side.0 && well_formed side.0;
          units = over-units false side.0 short i;
        })

    second : head (tail rest) ≡ first (from (1 + a.words) ws)
    second = rw size_is (behind ws side.0 side.1)

    module _ (z : n ≡ 0 → ⊥) (o : n ≡ 1 → ⊥) where
      both-sides : Row k 2
      both-sides = two-sides W.kind_row z o

      pub scan_missing_second : None ≡ first_in (first (from (1 + a.words) ws)) → None ≡ first_in (first ws)
      scan_missing_second e =
          rw (W.is, missing_second both-sides (operand (get_or ws 0 0)) rest side.0 side.1 (second ∙ missing (first (from (1 + a.words) ws)) e))

      pub scan_two : (b : First) → Some b ≡ first_in (first (from (1 + a.words) ws)) → a.words + b.words ≤ 31
          → Some (beside_sides k a b) ≡ first_in (first ws)
      scan_two b B h = ap₂ (λ (f g : First). Some (beside_sides k f g)) side.2 other.2 ∙ rw W.is (go both-sides)
        where
          other : (ψ : Term) × (first (from (1 + a.words) ws) ≡ some ψ) × (b ≡ read_of ψ)
          other = found (first (from (1 + a.words) ws)) b B

          short : size side.0 + size other.0 ≤ 31
          short = omega (arith, size_is, ap (λ (f : First). f.words) other.2)

          go : {j : ℕ} → Row j 2
              → Some (beside_sides j (read_of side.0) (read_of other.0)) ≡ first_in (head (push (kind_of j) (operand (get_or ws 0 0)) rest))
          go (row_op op) = rw (push_op op, side.1, second ∙ other.1) (ap (λ (f : First). Some f) (beside_is op side.0 other.0 short))
