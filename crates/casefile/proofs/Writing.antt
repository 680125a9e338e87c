-- Text put at a place of an output: the output keeps its length, and a text put behind another is the text of both.
use mathlib.Core.Path.{◌≡◌, sym, ap, ap₂, ◌∙◌}
use mathlib.Core.List.{List, ◌++◌, append_assoc}
use Prim.Native.Nat.{ℕ, ◌+◌}
use native.Mathlib.Omega.{arith}
use lib.ListN.{length, take, drop, length-append, length-drop}
use lib.Seq.{length-take-le, take_at, drop-append-add, drop-drop}
use Rattle.casefile.specs.Private.{written, HasRoom, Put}

module _ (out : List ℕ) (at : ℕ) (s : List ℕ) (room : HasRoom out at s) where
  front : length (take at out ++ s) ≡ at + length s
  front = length-append (take at out) s ∙ ap (λ (n : ℕ). n + length s) (length-take-le at out (omega arith))

  written-length : length (written out at s) ≡ length out
  written-length = length-append (take at out ++ s) (drop (at + length s) out) ∙ omega (arith, front, length-drop (at + length s) out)

  behind : (t : List ℕ) → drop (at + length s + length t) (written out at s) ≡ drop (at + length s + length t) out
  behind t =
      ap (λ (n : ℕ). drop (n + length t) (written out at s)) (sym front)
      ∙ drop-append-add (take at out ++ s) (drop (at + length s) out) (length t)
      ∙ drop-drop (length t) (at + length s) out

  written_again : (t : List ℕ) → written (written out at s) (at + length s) t ≡ written out at (s ++ t)
  written_again t =
      let both : at + length s + length t ≡ at + length (s ++ t) = omega (arith, length-append s t) in
      ap₂ (λ (p q : List ℕ). p ++ t ++ q) (take_at (take at out ++ s) (drop (at + length s) out) (at + length s) front) (behind t)
      ∙ ap₂ (λ (p : List ℕ) (n : ℕ). p ++ drop n out) (append_assoc (take at out) s t) both

-- room for a text is room for its beginning
pub room-first : (out : List ℕ) (at : ℕ) (s t : List ℕ) → HasRoom out at (s ++ t) → HasRoom out at s
room-first out at s t room = omega (arith, length-append s t)

module _ {out left : List ℕ} {at next : ℕ} {s : List ℕ} (p : Put out at s next left) (t : List ℕ) (room : HasRoom out at (s ++ t)) where
  own : HasRoom out at s
  own = room-first out at s t room

  -- there is room behind it
  pub room-behind : HasRoom left next t
  room-behind = omega (arith, p.place, ap length p.holds, written-length out at s own, length-append s t)

  pub put-behind : {last : ℕ} {end : List ℕ} → Put left next t last end → Put out at (s ++ t) last end
  put-behind q = record {
    place = omega (arith, p.place, q.place, length-append s t);
    holds = q.holds ∙ ap₂ (λ (l : List ℕ) (n : ℕ). written l n t) p.holds p.place ∙ written_again out at s own t;
  }

-- an output as long as it was
pub put-length : {out left : List ℕ} {at next : ℕ} {s : List ℕ} → Put out at s next left → HasRoom out at s → length left ≡ length out
put-length {out} {left} {at} {next} {s} p room = ap length p.holds ∙ written-length out at s room
