-- The text that the call wrote stands in the output, so it is no longer than that.
use Rattle.std.proofs.Common.{◌≡◌, ◌≤◌, ◌++◌, ℕ, List, length, drop, replicate, length-append, sym, ap, ◌∙◌, le-ltb, arith}
use Rattle.std.proofs.Math.Seq.{length-take-le}
use Rattle.casefile.specs.Texts.{Printed, Written, TooShort, case_text, limit, printed, output}
use Rattle.judge.proofs.main.Goals as goal

-- the length that an answer gives
length_of : Printed → ℕ
length_of (Written n) = n
length_of TooShort = 0

fits : (bytes out : List ℕ) {n : ℕ} {new : List ℕ} → limit ≤ length out → Written n ≡ printed bytes (length out) → new ≡ output bytes out
    → length new ≡ length out → n ≤ length new
unfolding length_of printed output
fits bytes out {n} {new} l e f k =
    let long = le-ltb (length out) limit l in
    let a : n ≡ length (case_text bytes) = ap length_of e ∙ rw long in
    let b : length new ≡ length (case_text bytes ++ drop (length (case_text bytes)) out) = ap length f ∙ rw long in
    omega (arith, length-append (case_text bytes) (drop (length (case_text bytes)) out))

pub slice_bounds-out-end : goal.slice_bounds-out-end
slice_bounds-out-end c =
    let j = c.print_case in
    fits _ (replicate 2313 0) (omega arith) c.in-Some.ensures.0 j.ensures.1 j.auto.out

pub slice_bounds-write_all-end : goal.slice_bounds-write_all-end
slice_bounds-write_all-end c =
    let j = c.print_case in
    sym (length-take-le c.in-Some.length j.new.out (fits _ (replicate 2313 0) (omega arith) c.in-Some.ensures.0 j.ensures.1 j.auto.out))
