-- The numbers of a set, as the loop over them reads them.
use mathlib.Core.Path.{◌≡◌, refl, sym, ap, ◌∙◌}
use mathlib.Core.Bool.{Bool, true}
use mathlib.Core.List.{List, ◌∷◌}
use mathlib.Core.Option.{some, none}
use Prim.Native.Nat.{ℕ, zero, suc, ◌+◌, ◌*◌, ◌%◌, ◌^◌, ◌≤◌, ◌<◌}
use native.Mathlib.Nat.{pow-le-pow_right, two-pow-succ}
use native.Mathlib.Numerals.{add-one}
use native.Mathlib.Omega.{arith}
use lib.Dec.{eqb}
use lib.ListN.{length, get_or, take, drop, drop_of_length-le}
use lib.Seq.{drop-cons}
use borrow.Author.Tests.{lt-ltb, le-ltb, ne_eqb}
use Rattle.std.specs.Prelude.{Some, None}
use Rattle.std.specs.Cmp.Lexicographic.{pointwise}
use Rattle.soda.specs.Lists.{from}
use Rattle.soda.specs.Terms.{Term, set}
use Rattle.soda.proofs.Bits.{one_shl}
use Rattle.soda.proofs.Lists.{from-drop}
use Rattle.text.specs.Texts.{ascii}
use Rattle.text.specs.Grammar.{Read, upon, or_else, behind, keyword, numeral_in, members_in}
use Rattle.parser.specs.Private.{set_here, IsNumber, NumberRead, LeafRead}
use Rattle.parser.specs.declared.tokens.Token.{Token}
use Rattle.parser.proofs.Readers.{begun, Got, missing, got}

abbrev as_set : Read ℕ → Read Term
as_set o = upon o (λ m. some (set m.0, m.1))

-- what is still to be read from a place on decides
pub record Remains (t : List ℕ) (at low mask : ℕ) : Type 0 where
  pub turns : ℕ
  pub enough : 16 ≤ low + turns
  pub same : set_here t ≡ as_set (members_in turns low mask (drop at t))

-- the same behind a number, where a sign decides
abbrev after_number : ℕ → ℕ → ℕ → List ℕ → Read ℕ
after_number turns low mask t = or_else (keyword (ascii "}") mask t) (upon (behind (ascii ",") t) (members_in turns low mask))

pub record Signed (t : List ℕ) (at low mask : ℕ) : Type 0 where
  pub turns : ℕ
  pub enough : 16 ≤ low + turns
  pub same : set_here t ≡ as_set (after_number turns low mask (drop at t))

pub all_remains : (t : List ℕ) {r : Bool} → r ≡ pointwise eqb (ascii "{") (take 1 t) → r ≡ true → Remains t 1 0 0
all_remains t test e = record { turns = 16; enough = omega arith; same = rw (begun (ascii "{") t test e) refl }

-- ── the answer ──
no_set : (t : List ℕ) → set_here t ≡ none → LeafRead (set_here t) t None
no_set t e = rw e tt

-- ── a number ──
no_number : (turns low mask : ℕ) (t : List ℕ) → numeral_in t ≡ none → members_in turns low mask t ≡ none
no_number zero low mask t e = refl
no_number (suc k) low mask t e = rw e refl

pub set_no_number : {t : List ℕ} {at low mask : ℕ} → Remains t at low mask → NumberRead (numeral_in (from at t)) (from at t) None → LeafRead (set_here t) t None
set_no_number {t} {at} {low} {mask} r read =
    let m = missing (λ k. k.bytes) (λ k. IsNumber k.value) (numeral_in (from at t)) (from at t) read in
    no_set t (r.same ∙ ap as_set (no_number r.turns low mask (drop at t) (ap numeral_in (sym (from-drop at t)) ∙ m)))

-- all digits are below the next number's
mask_grows : (mask low v : ℕ) → mask < 2 ^ low → low ≤ v → mask + 2 ^ v < 2 ^ suc v
mask_grows mask low v h k = omega (arith, pow-le-pow_right {n = 2} (omega arith) k, two-pow-succ v)

module _ {t : List ℕ} {at low mask : ℕ} (r : Remains t at low mask) (inside : at ≤ length t) (n : Token ℕ)
    (read : NumberRead (numeral_in (from at t)) (from at t) (Some n)) where
  number_got : Got (IsNumber n.value) (numeral_in (from at t)) t at (at + n.bytes)
  number_got = got (λ k. k.bytes) (λ k. IsNumber k.value) (numeral_in (from at t)) t at n inside read

  pub number_small : n.value < 16
  number_small = omega (arith, number_got.holds.0, number_got.holds.1)

  number_is : numeral_in (drop at t) ≡ some (n.value, drop (at + n.bytes) t)
  number_is =
      let g = number_got in
      ap numeral_in (sym (from-drop at t)) ∙ g.same ∙ ap (λ (v : ℕ). some (v, drop (at + n.bytes) t)) (sym g.holds.0)

  low-number : (turns : ℕ) → n.value < low → members_in turns low mask (drop at t) ≡ none
  low-number zero e = refl
  low-number (suc k) e = rw (number_is, lt-ltb n.value low e) refl

  pub set-low-number : n.value < low → LeafRead (set_here t) t None
  set-low-number e = no_set t (r.same ∙ ap as_set (low-number r.turns e))

  -- no lower than it may be
  module _ (small : mask < 2 ^ low) (above : low ≤ n.value) where
    -- the mask with this number, as code has it
    abbrev next : ℕ
    next = mask + 1 * 2 ^ n.value % 2 ^ 16

    next-is : next ≡ mask + 2 ^ n.value
    next-is = ap (λ (x : ℕ). mask + x) (one_shl 16 n.value (omega (arith, number_small)))

    pub next_below : next < 2 ^ (n.value + 1)
    next_below = rw (next-is, add-one n.value) (mask_grows mask low n.value small above)

    signed : (turns : ℕ) → 16 ≤ low + turns → set_here t ≡ as_set (members_in turns low mask (drop at t)) → Signed t (at + n.bytes) (suc n.value) (mask + 2 ^ n.value)
    signed zero k e = absurd (omega (arith, number_small))
    signed (suc turns) k e = record { turns = turns; enough = omega arith; same = e ∙ rw (number_is, le-ltb n.value low above) refl }

    -- its sign decides
    pub number-signed : Signed t (at + n.bytes) (n.value + 1) next
    number-signed = rw (next-is, add-one n.value) (signed r.turns r.enough r.same)

-- ── the sign behind it ──
module _ {t : List ℕ} {at low mask : ℕ} (s : Signed t at low mask) where
  pub set_ended : length t ≤ at → LeafRead (set_here t) t None
  set_ended h = no_set t (s.same ∙ ap (λ (l : List ℕ). as_set (after_number s.turns low mask l)) (drop_of_length-le t h))

  module _ (inside : at < length t) {sign : ℕ} (is : sign ≡ get_or t at 0) where
    at_sign : set_here t ≡ as_set (after_number s.turns low mask (sign ∷ drop (at + 1) t))
    at_sign =
        let e : drop at t ≡ sign ∷ drop (at + 1) t = rw (is, add-one at) (drop-cons t at 0 inside) in
        s.same ∙ ap (λ (l : List ℕ). as_set (after_number s.turns low mask l)) e

    pub set_closed : sign ≡ 125 → LeafRead (set_here t) t (Some (record { bytes = at + 1; value = 3 * 2 ^ 24 + mask }))
    set_closed e = rw (at_sign, e) (record { some_bytes = omega arith; within = omega arith; left = refl }, refl)

    pub set_again : sign ≡ 44 → Remains t (at + 1) low mask
    set_again e = record { turns = s.turns; enough = s.enough; same = at_sign ∙ rw e refl }

    pub set_other : (sign ≡ 125 → ⊥) → (sign ≡ 44 → ⊥) → LeafRead (set_here t) t None
    set_other f g = no_set t (at_sign ∙ rw (ne_eqb sign 125 f, ne_eqb sign 44 g) refl)
