-- A mask without the members of another.
use mathlib.Core.Path.{◌≡◌, refl, ◌∙◌}
use mathlib.Core.Bool.{Bool, true, false, not, ◌&&◌, cond}
use mathlib.Core.List.{List, [], ◌∷◌, map}
use Prim.Native.Nat.{◌+◌, ◌-◌, ◌*◌, ◌^◌, ◌<◌}
use native.Mathlib.Omega.{arith}
use lib.Bits.{bit_and, and_block}
use Rattle.std.proofs.lemmas.Nat.{and_comm, and-not}
use Rattle.soda.specs.Bits.{number}
use Rattle.soda.proofs.Bits.{digit_lt}

digit_and : (a b : Bool) → bit_and (cond a 1 0) (cond b 1 0) + cond (a && not b) 1 0 ≡ cond a 1 0
digit_and true true = refl
digit_and true false = refl
digit_and false true = refl
digit_and false false = refl

module _ {A : Type 0} (f g : A → Bool) where
  parts : (l : List A) → bit_and (number (map f l)) (number (map g l)) + number (map (λ x. f x && not (g x)) l) ≡ number (map f l)
  parts [] = refl
  parts (x ∷ l) =
      let p : number (map f (x ∷ l)) ≡ number (map f l) * 2 ^ 1 + cond (f x) 1 0 = omega arith in
      let q : number (map g (x ∷ l)) ≡ number (map g l) * 2 ^ 1 + cond (g x) 1 0 = omega arith in
      let e : bit_and (number (map f (x ∷ l))) (number (map g (x ∷ l)))
      ≡ bit_and (number (map f l)) (number (map g l)) * 2 ^ 1 + bit_and (cond (f x) 1 0) (cond (g x) 1 0) =
      (λ i. bit_and (p i) (q i)) ∙ and_block 1 (number (map f l)) (number (map g l)) (cond (f x) 1 0) (cond (g x) 1 0) (digit_lt (f x)) (digit_lt (g x)) in
      omega (arith, parts l, digit_and (f x) (g x))

  pub without_is : (l : List A) → number (map f l) < 2 ^ 32 → number (map g l) < 2 ^ 32
      → bit_and (number (map f l)) (2 ^ 32 - 1 - number (map g l)) ≡ number (map (λ x. f x && not (g x)) l)
  without_is l a b =
      let m = number (map f l) in
      let n = number (map g l) in
      omega (arith, parts l, and-not 32 n m b a, and_comm m n, and_comm m (2 ^ 32 - 1 - n))
