-- The normal form of the first term, by the sides of its first word: what each call is handed, and that what it leaves is right.
use mathlib.Core.Path.{◌≡◌, refl, sym, ap, ◌∙◌}
use mathlib.Core.Bool.{So}
use mathlib.Core.List.{List, [], ◌∷◌, ◌++◌, append_assoc, append-nil}
use Prim.Native.Nat.{ℕ, zero, suc, ◌+◌, ◌-◌, ◌≤◌, ◌<◌, ◌^◌}
use native.Mathlib.Omega.{arith}
use lib.ListN.{length, get_or, take, drop, set, replicate, length-set, length-append, length-drop, drop_of_length-le}
use lib.Seq.{take_at, drop_at, drop-drop, drop-set-lt, length-take-le}
use borrow.Rule.Slice.PartMut.{put_mid}
use Rattle.soda.proofs.Lists.{from-drop, from-length}
use Rattle.soda.specs.Lists.{from, merge}
use Rattle.soda.specs.Terms.{Op, Term, everyone, role, Term.set as people, ¬ᵗ◌, ◌⁺, bin, size}
use Rattle.soda.specs.Words.{op_kind, op_word, encode, fits, term_le}
use Rattle.soda.specs.Normal.{operands, chain, normal_form}
use Rattle.soda.proofs.Bools.{and_split, so_lt}
use Rattle.soda.proofs.Terms.{size_pos}
use Rattle.soda.proofs.Words.{encode-length}
use Rattle.soda.proofs.Normal.{normal-is-merge}
use Rattle.soda.proofs.EqualForms.{normal_keeps}
use Rattle.policy.specs.Words.{kind, sides}
use Rattle.normal.specs.Private.{Merging, Merged, Spelt, Written}
use Rattle.policy.proofs.Grammar.{op_sides}
use Rattle.policy.proofs.Encoding.{kind-word}
use Rattle.normal.proofs.Chains.{normal-words, words-chain}
use Rattle.normal.proofs.Merging.{set_front, behind, came_back, merging}

-- ── the sides of the first word ──
module _ (ws : List ℕ) (φ : Term) (rest : List ℕ) where
  pub record None : Type 0 where
    pub long : size φ ≡ 1
    pub normal : encode (normal_form φ) ≡ get_or ws 0 0 ∷ []

  pub record One : Type 0 where
    pub ψ : Term
    pub fit : So (fits ψ)
    pub behind : drop 1 ws ≡ encode ψ ++ rest
    pub long : size φ ≡ 1 + size ψ
    pub normal : encode (normal_form φ) ≡ get_or ws 0 0 ∷ encode (normal_form ψ)

  pub record Two : Type 0 where
    pub op : Op
    pub ψ : Term
    pub χ : Term
    pub fit : So (fits ψ)
    pub fit2 : So (fits χ)
    pub is_op : get_or ws 0 0 ≡ op_word op
    pub behind : drop 1 ws ≡ encode ψ ++ (encode χ ++ rest)
    pub long : size φ ≡ 1 + (size ψ + size χ)
    pub normal : normal_form φ ≡ chain op (merge term_le (operands op (normal_form ψ)) (operands op (normal_form χ)))

  -- by their number
  abbrev Sides : ℕ → Type 0
  Sides zero = None
  Sides (suc zero) = One
  Sides (suc (suc n)) = Two

sided : (φ : Term) (rest : List ℕ) → So (fits φ) → Sides (encode φ ++ rest) φ rest (sides (kind (get_or (encode φ ++ rest) 0 0)))
sided everyone rest f = record { long = refl; normal = refl }
sided (role r) rest f = let e = kind-word 2 r (so_lt r (2 ^ 16) f) in rw e (record { long = refl; normal = refl })
sided (people m) rest f = let e = kind-word 3 m (so_lt m (2 ^ 16) f) in rw e (record { long = refl; normal = refl })
sided (¬ᵗ φ) rest f = record { ψ = φ; fit = f; behind = refl; long = refl; normal = refl }
sided (φ ⁺) rest f = record { ψ = φ; fit = f; behind = refl; long = refl; normal = refl }
sided (bin op φ ψ) rest f =
    let s = and_split (fits φ) (fits ψ) f in
    rw (kind-word (op_kind op) 0 (omega arith), op_sides op)
    (record {
      op = op;
      ψ = φ;
      χ = ψ;
      fit = s.0;
      fit2 = s.1;
      is_op = refl;
      behind = append_assoc (encode φ) (encode ψ) rest;
      long = refl;
      normal = normal-is-merge op φ ψ;
    })

module _ {ws : List ℕ} {k : ℕ} (s : Spelt ws k) {h n : ℕ} (d : h ≡ kind (get_or ws 0 0)) (e : n ≡ sides h) where
  by_number : Sides ws s.term s.rest n
  by_number = rw (e, d, s.words) (sided s.term s.rest s.fit)

  pub no_side : n ≡ 0 → None ws s.term s.rest
  no_side z = rw z at by_number

  pub one_side : n ≡ 1 → One ws s.term s.rest
  one_side z = rw z at by_number

  pub two-sides : 2 ≤ n → Two ws s.term s.rest
  two-sides = go n by_number
    where
      go : (m : ℕ) → Sides ws s.term s.rest m → 2 ≤ m → Two ws s.term s.rest
      go zero r z = absurd (omega arith)
      go (suc zero) r z = absurd (omega arith)
      go (suc (suc m)) r z = r

-- words that begin with those of a term
unfoldable pub spelt : (ws : List ℕ) (n : ℕ) (φ : Term) (rest : List ℕ) → ws ≡ encode φ ++ rest → So (fits φ) → length ws ≤ 31 → length ws ≤ n → Spelt ws n
spelt ws n φ rest e f h g = record {
  term = φ;
  rest = rest;
  words = e;
  fit = f;
  some = omega (arith, ap length e, length-append (encode φ) rest, encode-length φ, size_pos φ);
  short = h;
  room = g;
}

module _ (ws out : List ℕ) (s : Spelt ws (length out)) where
  abbrev w : ℕ
  w = get_or ws 0 0

  -- out, once the first word is written
  abbrev begun : List ℕ
  begun = set out 0 w

  pub within : size s.term ≤ length ws
  within = omega (arith, ap length s.words, length-append (encode s.term) s.rest, encode-length s.term)

  is-begun : begun ≡ w ∷ drop 1 out
  is-begun = set_front w out (omega (arith, s.some, s.room))

  -- ── a term of one word, or over one side ──
  pub one_word : None ws s.term s.rest → (1 ≡ size s.term) × (begun ≡ encode (normal_form s.term) ++ drop (size s.term) out)
  one_word r = (sym r.long, rw (r.normal, r.long) is-begun)

  module _ (r : One ws s.term s.rest) where
    back : from 1 begun ≡ drop 1 out
    back = ap (from 1) is-begun ∙ behind w [] (drop 1 out)

    pub inner : Spelt (from 1 ws) (length (from 1 begun))
    inner = spelt (from 1 ws) (length (from 1 begun)) r.ψ s.rest (from-drop 1 ws ∙ r.behind) r.fit
        (omega (arith, s.short, from-length 1 ws)) (rw back (omega (arith, s.room, from-length 1 ws, length-drop 1 out)))

    pub over_word : {n : ℕ} {new : List ℕ} → Written (from 1 ws) (from 1 begun) n new
        → (1 + n ≡ size s.term) × (put_mid 1 (length begun - 1) begun new ≡ encode (normal_form s.term) ++ drop (size s.term) out)
    unfolding inner spelt
    over_word {new = new} f =
        let g = f inner in (
          omega (arith, g.0, r.long),
          ap (λ (l : List ℕ). put_mid 1 (length l - 1) l new) is-begun
              ∙ came_back w [] (drop 1 out) new
              ∙ rw (g.1, back, drop-drop (size r.ψ) 1 out, r.normal, r.long),
        )

  -- ── a term over two sides ──
  module _ (r : Two ws s.term s.rest) where
    pub first_side : Spelt (from 1 ws) 31
    first_side = spelt (from 1 ws) 31 r.ψ (encode r.χ ++ s.rest) (from-drop 1 ws ∙ r.behind) r.fit
        (omega (arith, s.short, from-length 1 ws)) (omega (arith, s.short, from-length 1 ws))

    -- the first side's n words, in an array of its own
    module _ {first : List ℕ} {n : ℕ} (f : Written (from 1 ws) (replicate 31 0) n first) where
      one-done : (n ≡ size r.ψ) × (first ≡ encode (normal_form r.ψ) ++ drop (size r.ψ) (replicate 31 0))
      unfolding first_side spelt
      one-done = f first_side

      first-long : length (encode (normal_form r.ψ)) ≡ n
      first-long = encode-length (normal_form r.ψ) ∙ (normal_keeps r.ψ).same_size ∙ sym one-done.0

      all-long : 1 + (n + size r.χ) ≡ size s.term
      all-long = omega (arith, one-done.0, r.long)

      fits-in : 1 + n < length out
      fits-in = omega (arith, all-long, within, s.room, size_pos r.χ)

      past : drop (1 + n) begun ≡ drop (1 + n) out
      past = drop-set-lt (1 + n) out 0 w (omega arith)

      pub second_side : Spelt (from (1 + n) ws) (length (from (1 + n) begun))
      second_side = spelt (from (1 + n) ws) (length (from (1 + n) begun)) r.χ s.rest
          (from-drop (1 + n) ws
          ∙ sym (drop-drop n 1 ws)
          ∙ ap (drop n) r.behind
          ∙ drop_at (encode r.ψ) (encode r.χ ++ s.rest) n (encode-length r.ψ ∙ sym one-done.0)) r.fit2
          (omega (arith, s.short, from-length (1 + n) ws))
          (omega (arith, s.room, from-length (1 + n) ws, from-length (1 + n) begun, length-set out 0 w))

      module _ {m : ℕ} {new : List ℕ} (g : Written (from (1 + n) ws) (from (1 + n) begun) m new) where
        two-done : (m ≡ size r.χ) × (new ≡ encode (normal_form r.χ) ++ drop (size r.χ) (from (1 + n) begun))
        unfolding second_side spelt
        two-done = g second_side

        pub both-sides : Merging w (take n first) (put_mid (1 + n) (length begun - (1 + n)) begun new)
        both-sides =
            let a : take n first ≡ encode (normal_form r.ψ) =
            ap (take n) one-done.1 ∙ take_at (encode (normal_form r.ψ)) (drop (size r.ψ) (replicate 31 0)) n first-long in
            let l : length (take n first) ≡ n = ap length a ∙ first-long in
            let z : length begun ≡ length out = length-set out 0 w in
            let j : length (drop (1 + n) begun) ≤ length begun - (1 + n) = omega (arith, length-drop (1 + n) begun) in
            let k : 1 + n ≤ length begun = omega (arith, fits-in) in
            let b : drop (1 + n) (put_mid (1 + n) (length begun - (1 + n)) begun new) ≡ new =
            drop_at (take (1 + n) begun) (new ++ drop (length begun - (1 + n)) (drop (1 + n) begun)) (1 + n) (length-take-le (1 + n) begun k)
            ∙ ap (λ (v : List ℕ). new ++ v) (drop_of_length-le (drop (1 + n) begun) j)
            ∙ append-nil new in
            merging w (take n first) (put_mid (1 + n) (length begun - (1 + n)) begun new)
            (operands r.op (normal_form r.ψ)) (operands r.op (normal_form r.χ)) (drop (size r.χ) (from (1 + n) begun))
            (rw a (rw append-nil at (normal-words r.op r.is_op r.ψ [] r.fit)))
            (rw (l, b, two-done.1) (normal-words r.op r.is_op r.χ (drop (size r.χ) (from (1 + n) begun)) r.fit2))

        pub over_both : {end : List ℕ} → Merged w (take n first) (put_mid (1 + n) (length begun - (1 + n)) begun new) end
            → (1 + n + m ≡ size s.term) × (end ≡ encode (normal_form s.term) ++ drop (size s.term) out)
        unfolding both-sides merging
        over_both h =
            let e : 1 + n + size r.χ ≡ size s.term = omega (arith, all-long) in (
              omega (arith, all-long, two-done.0),
              words-chain r.op r.is_op (h both-sides)
                  ∙ rw (r.normal, from-drop (1 + n) begun, past, drop-drop (size r.χ) (1 + n) out, e),
            )
