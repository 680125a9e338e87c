-- What is read of a text is a term and its text; a term's text is read as the term.
use mathlib.Core.Path.{◌≡◌, refl, sym, ap, ◌∙◌}
use mathlib.Core.Bool.{So, not}
use mathlib.Core.List.{List, [], ◌∷◌, ◌++◌, append_assoc, append-nil}
use mathlib.Core.Option.{some, none-ne-some}
use Prim.Native.Nat.{ℕ, zero, suc, ◌^◌, ◌≤◌}
use native.Mathlib.Omega.{arith}
use borrow.Author.Tests.{lt-ltb, ltb-true, ne_eqb, eqb-false, not-true}
use lib.Dec.{ltb, eqb}
use lib.ListN.{length, length-append}
use Rattle.soda.specs.Terms.{Op, either, both, together, apart, Term, everyone, role, set, ¬ᵗ◌, ◌⁺, bin, size}
use Rattle.soda.specs.Words.{declared}
use Rattle.soda.proofs.Bools.{and_split, and-join}
use Rattle.soda.proofs.Terms.{size_pos}
use Rattle.text.specs.Texts.{ascii, members, listed, op_text, text}
use Rattle.text.specs.Grammar.{Read, keyword, role_in, set_in, leaf_in, Head, over, pair, head_in, operator_in, sides_in, term_in, at_end, parse}
use Rattle.text.specs.Laws.{Named, ParseIsText, TextIsOne}
use Rattle.text.proofs.Beginnings.{upon-some, Finds, finds_none, finds_upon, finds_or, finds_one, finds_behind, finds_keyword}
use Rattle.text.proofs.Numbers.{no_digit, numeral_finds, numeral_read}
use Rattle.text.proofs.Members.{set_read, set-some}

-- ── what is read is a text ──
-- a term's text stands at the beginning, and the rest behind it
abbrev pub Stands : List ℕ → Term × List ℕ → Type 0
Stands t φ = (t ≡ text φ.0 ++ φ.1) × Named φ.0

role_stands : (t : List ℕ) → Finds (role_in t) (Stands (114 ∷ t))
role_stands t = finds_upon (numeral_finds t)
    λ r p. finds_one (ap (λ (s : List ℕ). 114 ∷ s) p.0, lt-ltb r.0 16 p.1)

set_stands : (t : List ℕ) → Finds (set_in t) (Stands (123 ∷ t))
set_stands t = finds_upon (record { has = λ m. set-some t m.1 m.0 })
    λ m p. let ne = ne_eqb m.0 0 (λ o. omega arith) in
    finds_one (p.0, and-join (not (eqb m.0 0)) (ltb m.0 (2 ^ 16)) (ap not ne) (lt-ltb m.0 (2 ^ 16) p.2))

leaf_stands : (t : List ℕ) → Finds (leaf_in t) (Stands t)
leaf_stands t =
    finds_or (finds_keyword (ascii "all") everyone t (λ rest e. (e, refl)))
    (finds_or (finds_behind (ascii "r") t (λ rest e. rw e (role_stands rest)))
    (finds_behind (ascii "{") t (λ rest e. rw e (set_stands rest))))

operator_stands : (t : List ℕ) → Finds (operator_in t) (λ op. t ≡ op_text op.0 ++ op.1)
operator_stands t = finds_or (at either) (finds_or (at both) (finds_or (at together) (at apart)))
  where
    at : (op : Op) → Finds (keyword (op_text op) op t) (λ op. t ≡ op_text op.0 ++ op.1)
    at op = finds_keyword (op_text op) op t (λ rest e. e)

data HeadStands (t : List ℕ) : Head × List ℕ → Type 0 where
  is-pair : (rest : List ℕ) → t ≡ ascii "(" ++ rest → HeadStands t (pair, rest)
  is-not : (rest : List ℕ) → t ≡ ascii "not " ++ rest → HeadStands t (over ¬ᵗ◌, rest)
  is-plus : (rest : List ℕ) → t ≡ ascii "plus " ++ rest → HeadStands t (over ◌⁺, rest)

head_stands : (t : List ℕ) → Finds (head_in t) (HeadStands t)
head_stands t =
    finds_or (finds_keyword (ascii "(") pair t is-pair)
    (finds_or (finds_keyword (ascii "not ") (over ¬ᵗ◌) t is-not)
    (finds_keyword (ascii "plus ") (over ◌⁺) t is-plus))

sides_stands : (side : List ℕ → Read Term) → ((t : List ℕ) → Finds (side t) (Stands t))
    → (t : List ℕ) (h : Head × List ℕ) → HeadStands t h → Finds (sides_in side h.0 h.1) (Stands t)
sides_stands side ih t h (is-not rest e) = finds_upon (ih rest) λ φ p. finds_one (rw (e, p.0), p.1)
sides_stands side ih t h (is-plus rest e) = finds_upon (ih rest) λ φ p. finds_one (rw (e, p.0), p.1)
sides_stands side ih t h (is-pair rest e) =
    finds_upon (ih rest) λ φ p.
    finds_upon (operator_stands φ.1) λ op q.
    finds_upon (ih op.1) λ ψ r.
    finds_keyword (ascii ")") (bin op.0 φ.0 ψ.0) ψ.1 λ s z.
    (rw (e, p.0, q, r.0, z) (simp append_assoc), and-join (declared 16 16 φ.0) (declared 16 16 ψ.0) p.1 r.1)

pub term_stands : (n : ℕ) (t : List ℕ) → Finds (term_in n t) (Stands t)
term_stands zero t = finds_none
term_stands (suc n) t = finds_or (leaf_stands t) (finds_upon (head_stands t) (sides_stands (term_in n) (term_stands n) t))

-- ── a text is read ──
operator_read : (op : Op) (rest : List ℕ) → So (no_digit (op_text op ++ rest)) × (operator_in (op_text op ++ rest) ≡ some (op, rest))
operator_read either rest = (refl, refl)
operator_read both rest = (refl, refl)
operator_read together rest = (refl, refl)
operator_read apart rest = (refl, refl)

pub term_read : (n : ℕ) (φ : Term) (rest : List ℕ) → size φ ≤ n → Named φ → So (no_digit rest) → term_in n (text φ ++ rest) ≡ some (φ, rest)
term_read zero φ rest h d s = absurd (omega (arith, size_pos φ))
term_read (suc n) everyone rest h d s = refl
term_read (suc n) (role r) rest h d s = rw (numeral_read r rest (ltb-true r 16 d) s)
term_read (suc n) (set m) rest h d s =
    let (x, y) = and_split (not (eqb m 0)) (ltb m (2 ^ 16)) d in
    let ne = eqb-false m 0 (not-true (eqb m 0) x) in
    let (t, p, q) = set_read m rest (let z : 1 ≤ m = omega arith in z) (ltb-true m (2 ^ 16) y) in
    rw (p, q)
term_read (suc n) (¬ᵗ φ) rest h d s = rw (term_read n φ rest (omega arith) d s)
term_read (suc n) (φ ⁺) rest h d s = rw (term_read n φ rest (omega arith) d s)
term_read (suc n) (bin op φ ψ) rest h d s =
    let (x, y) = and_split (declared 16 16 φ) (declared 16 16 ψ) d in
    let tail = text ψ ++ (41 ∷ rest) in
    let (o, p) = operator_read op tail in
    let z : (text φ ++ (op_text op ++ (text ψ ++ ascii ")"))) ++ rest ≡ text φ ++ (op_text op ++ tail) = simp append_assoc in
    rw (z, term_read n φ (op_text op ++ tail) (omega arith) x o, p, term_read n ψ (41 ∷ rest) (omega arith) y refl)

-- ── parse ──
-- a word is at least a byte
size-text : (φ : Term) → size φ ≤ length (text φ)
size-text everyone = omega arith
size-text (role r) = omega arith
size-text (set m) = omega (arith, length-append (listed 123 (members 16 0 m)) (ascii "}"))
size-text (¬ᵗ φ) = omega (arith, size-text φ)
size-text (φ ⁺) = omega (arith, size-text φ)
size-text (bin op φ ψ) = simp length-append (omega (arith, size-text φ, size-text ψ))

at_end_lem : (φ ψ : Term) (t : List ℕ) → at_end φ t ≡ some ψ → (t ≡ []) × (φ ≡ ψ)
at_end_lem φ ψ [] e = (refl, cc)
at_end_lem φ ψ (b ∷ t) e = absurd (none-ne-some ψ e)

pub parse-is-text : ParseIsText
unfolding parse
parse-is-text t φ = (to, back)
  where
    to : parse t ≡ some φ → (t ≡ text φ) × Named φ
    to e =
        let (u, p, q) = upon-some (term_in (length t) t) (λ φ. at_end φ.0 φ.1) φ e in
        let (x, y) = (term_stands (length t) t).has u p in
        let (z, w) = at_end_lem u.0 φ u.1 q in
        (x ∙ rw (z, w) (append-nil (text φ)), rw w at y)

    back : (t ≡ text φ) × Named φ → parse t ≡ some φ
    back h =
        let n = length (text φ) in
        let e : term_in n (text φ) ≡ some (φ, []) = ap (term_in n) (sym (append-nil (text φ))) ∙ term_read n φ [] (size-text φ) h.1 refl in
        rw (h.0, e)

pub text-is-one : TextIsOne
text-is-one φ ψ p q e =
    let z : some φ ≡ some ψ = sym ((parse-is-text (text φ) φ).1 (refl, p)) ∙ (parse-is-text (text φ) ψ).1 (e, q) in
    cc
