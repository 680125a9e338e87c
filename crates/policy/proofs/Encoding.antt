-- Words in the layout that begin with a term begin with that term's words, and a declared term's words are in the layout.
use Rattle.std.proofs.Common.{◌≡◌, ℕ, ◌/◌, ◌%◌, ◌^◌, ◌<◌, ◌≤◌, Bool, ◌&&◌, eqb, leb, List, ◌∷◌, ◌++◌, sym, refl, ap, ◌∙◌, ap₂, append_assoc, arith}
use mathlib.Core.Bool.{So}
use Rattle.soda.specs.Lists.{all}
use Rattle.soda.specs.Terms.{Op, either, both, together, apart, Term, everyone, role, set, ¬ᵗ◌, ◌⁺, bin}
use Rattle.soda.specs.Words.{word, op_kind, op_word, encode, fits, declared}
use Rattle.soda.proofs.Bools.{and_split, and-join, lt_so, so_lt, so_eq}
use Rattle.soda.proofs.Words.{declared-fits}
use Rattle.policy.specs.Words.{kind, operand, sides, operand_ok, word_ok}
use Rattle.policy.specs.Accepted.{KindOfWord, OperandOfWord, SidesOfTerm}
use Rattle.policy.proofs.Grammar.{Begins, begins1, begins2, begins3, begins4, begins5, begins_op, op_sides}

-- ── from words to a term ──
module _ (users roles : ℕ) where
  abbrev ok : ℕ → Bool
  ok = word_ok users roles

  -- the first word is in the layout: it is its kind and its operand, which names what is declared
  module _ (w : ℕ) (ws : List ℕ) (h : So (all ok (w ∷ ws))) where
    left_ok : So (all ok ws)
    left_ok = (and_split (ok w) (all ok ws) h).1

    layout : So (eqb (w / 2 ^ 16 % 2 ^ 8) 0) × So (operand_ok users roles (kind w) (operand w))
    layout =
        let x = operand_ok users roles (kind w) (operand w) in
        let a = and_split (eqb (w / 2 ^ 16 % 2 ^ 8) 0) (leb 1 (kind w) && (leb (kind w) 9 && x)) (and_split (ok w) (all ok ws) h).0 in
        (a.0, (and_split (leb (kind w) 9) x (and_split (leb 1 (kind w)) (leb (kind w) 9 && x) a.1).1).1)

    module _ (k : ℕ) (e : kind w ≡ k) where
      named : So (operand_ok users roles k (operand w))
      named = rw e at layout.1

      carries : w ≡ word k (operand w)
      carries = rw (← e) (let z = so_eq (w / 2 ^ 16 % 2 ^ 8) 0 layout.0 in omega arith)

      plain : operand_ok users roles k (operand w) ≡ eqb (operand w) 0 → w ≡ word k 0
      plain z = carries ∙ ap (word k) (so_eq (operand w) 0 (sym z ∙ named))

  op_plain : (op : Op) (x : ℕ) → operand_ok users roles (op_kind op) x ≡ eqb x 0
  op_plain either x = refl
  op_plain both x = refl
  op_plain together x = refl
  op_plain apart x = refl

  -- the words are those of φ, which names what is declared, and then rest, which is in the layout
  pub record Spelt (ws : List ℕ) (φ : Term) (rest : List ℕ) : Type 0 where
    pub words : ws ≡ encode φ ++ rest
    pub names : So (declared users roles φ)
    pub left : So (all ok rest)

  pub spelt : {ws rest : List ℕ} {φ : Term} → Begins ws φ rest → So (all ok ws) → Spelt ws φ rest
  spelt (begins1 {w = w} {ws = ws} e) h =
      record { words = ap (λ v. v ∷ ws) (plain w ws h 1 e refl); names = refl; left = left_ok w ws h }
  spelt (begins2 {w = w} {ws = ws} e) h =
      record { words = ap (λ v. v ∷ ws) (carries w ws h 2 e); names = named w ws h 2 e; left = left_ok w ws h }
  spelt (begins3 {w = w} {ws = ws} e) h =
      record { words = ap (λ v. v ∷ ws) (carries w ws h 3 e); names = named w ws h 3 e; left = left_ok w ws h }
  spelt (begins4 {w = w} {ws = ws} e b) h =
      let r = spelt b (left_ok w ws h) in
      record { words = ap₂ ◌∷◌ (plain w ws h 4 e refl) r.words; names = r.names; left = r.left }
  spelt (begins5 {w = w} {ws = ws} e b) h =
      let r = spelt b (left_ok w ws h) in
      record { words = ap₂ ◌∷◌ (plain w ws h 5 e refl) r.words; names = r.names; left = r.left }
  spelt (begins_op {w = w} {ws = ws} {rest = rest} {op = op} {φ = φ} {ψ = ψ} e b c) h =
      let r = spelt b (left_ok w ws h) in
      let q = spelt c r.left in
      record {
        words = ap₂ ◌∷◌ (plain w ws h (op_kind op) e (op_plain op (operand w)))
            (r.words ∙ ap (λ l. encode φ ++ l) q.words ∙ sym (append_assoc (encode φ) (encode ψ) rest));
        names = and-join (declared users roles φ) (declared users roles ψ) r.names q.names;
        left = q.left;
      }

-- an operand has 16 bits
pub fits_begins : {ws rest : List ℕ} {φ : Term} → Begins ws φ rest → So (fits φ)
fits_begins (begins1 e) = refl
fits_begins (begins2 {w = w} e) = lt_so (operand w) (2 ^ 16) (omega arith)
fits_begins (begins3 {w = w} e) = lt_so (operand w) (2 ^ 16) (omega arith)
fits_begins (begins4 e b) = fits_begins b
fits_begins (begins5 e b) = fits_begins b
fits_begins (begins_op {φ = φ} {ψ = ψ} e b c) = and-join (fits φ) (fits ψ) (fits_begins b) (fits_begins c)

-- ── from a term to words ──
pub kind-word : KindOfWord
kind-word k x h = omega arith

operand-word : OperandOfWord
operand-word k x h = omega arith

sides_of_term : SidesOfTerm
sides_of_term everyone f = refl
sides_of_term (role r) f = ap sides (kind-word 2 r (so_lt r (2 ^ 16) f))
sides_of_term (set m) f = ap sides (kind-word 3 m (so_lt m (2 ^ 16) f))
sides_of_term (¬ᵗ φ) f = refl
sides_of_term (φ ⁺) f = refl
sides_of_term (bin op φ ψ) f = ap sides (kind-word (op_kind op) 0 (omega arith)) ∙ op_sides op

pub begins_encode : (φ : Term) (rest : List ℕ) → So (fits φ) → Begins (encode φ ++ rest) φ rest
begins_encode everyone rest f = begins1 refl
begins_encode (role r) rest f = let s = so_lt r (2 ^ 16) f in rw (operand-word 2 r s) at (begins2 {ws = rest} (kind-word 2 r s))
begins_encode (set m) rest f = let s = so_lt m (2 ^ 16) f in rw (operand-word 3 m s) at (begins3 {ws = rest} (kind-word 3 m s))
begins_encode (¬ᵗ φ) rest f = begins4 refl (begins_encode φ rest f)
begins_encode (φ ⁺) rest f = begins5 refl (begins_encode φ rest f)
begins_encode (bin op φ ψ) rest f =
    let s = and_split (fits φ) (fits ψ) f in
    rw append_assoc (begins_op (kind-word (op_kind op) 0 (omega arith)) (begins_encode φ (encode ψ ++ rest) s.0) (begins_encode ψ rest s.1))

module _ (users roles : ℕ) (hu : users ≤ 16) (hr : roles ≤ 16) where
  word_ok_lem : (k x : ℕ) → x < 2 ^ 16 → So (leb 1 k) → So (leb k 9) → So (operand_ok users roles k x) → So (word_ok users roles (word k x))
  word_ok_lem k x h a b c = let z : word k x / 2 ^ 16 % 2 ^ 8 ≡ 0 = omega arith in rw (z, kind-word k x h, operand-word k x h, a, b) c

  op_ok : (op : Op) → So (word_ok users roles (op_word op))
  op_ok either = refl
  op_ok both = refl
  op_ok together = refl
  op_ok apart = refl

  pub encode_ok : (φ : Term) (rest : List ℕ) → So (declared users roles φ) → So (all (word_ok users roles) rest)
      → So (all (word_ok users roles) (encode φ ++ rest))
  encode_ok everyone rest d h = h
  encode_ok (role r) rest d h =
      and-join (word_ok users roles (word 2 r)) (all (word_ok users roles) rest)
      (word_ok_lem 2 r (so_lt r (2 ^ 16) (declared-fits users roles (role r) hu hr d)) refl refl d) h
  encode_ok (set m) rest d h =
      and-join (word_ok users roles (word 3 m)) (all (word_ok users roles) rest)
      (word_ok_lem 3 m (so_lt m (2 ^ 16) (declared-fits users roles (set m) hu hr d)) refl refl d) h
  encode_ok (¬ᵗ φ) rest d h = encode_ok φ rest d h
  encode_ok (φ ⁺) rest d h = encode_ok φ rest d h
  encode_ok (bin op φ ψ) rest d h =
      let s = and_split (declared users roles φ) (declared users roles ψ) d in
      rw (append_assoc (encode φ) (encode ψ) rest, op_ok op) (encode_ok φ (encode ψ ++ rest) s.0 (encode_ok ψ rest s.1 h))
