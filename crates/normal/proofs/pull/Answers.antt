-- What is read lies behind what is pasted, so it is as it was.
use Rattle.std.proofs.Common.{◌≡◌, ℕ, ◌+◌, ◌-◌, ◌≤◌, List, length, get_or, set, drop, sym, ap, ◌∙◌, add-one, arith}
use Rattle.std.proofs.Math.ListN.{length-set, length-drop}
use Rattle.std.proofs.Math.Seq.{get_or-drop, paste, paste-suc, drop-paste}
use Rattle.normal.proofs.pull.Goals as goal

-- behind what is pasted the list is as it was
get_d_past : (d : List ℕ) (at : ℕ) (s : List ℕ) (n k : ℕ) → at ≤ length d → n ≤ length s → get_or (paste d at s n) (at + n + k) 0 ≡ get_or d (at + n + k) 0
get_d_past d at s n k h g =
    sym (get_or-drop (at + n) (paste d at s n) k 0) ∙ ap (λ (l : List ℕ). get_or l k 0) (drop-paste d at s n h g) ∙ get_or-drop (at + n) d k 0

pub loop-i-preserved : goal.loop-i-preserved
loop-i-preserved c =
    let a = c.args in
    let d = a.out.now in
    let s = drop a.from d in
    let l = c.loop-i in
    let z = length-drop a.from d in
    let e : a.from + l.i ≡ 1 + l.i + (a.from - 1) = omega arith in
    let v : get_or l.out (a.from + l.i) 0 ≡ get_or s l.i 0 =
    ap (λ (o : List ℕ). get_or o (a.from + l.i) 0) l.invariant.2
    ∙ ap (λ (k : ℕ). get_or (paste d 1 s l.i) k 0) e
    ∙ get_d_past d 1 s l.i (a.from - 1) (omega arith) (omega arith)
    ∙ ap (λ (k : ℕ). get_or d k 0) (sym e)
    ∙ sym (get_or-drop a.from d l.i 0) in (
      omega arith,
      length-set l.out (1 + l.i) (get_or l.out (a.from + l.i) 0) ∙ l.invariant.1,
      (λ j. set (l.invariant.2 j) (1 + l.i) (v j))
          ∙ paste-suc d 1 s l.i 0 (omega arith) (omega arith)
          ∙ ap (paste d 1 s) (sym (add-one l.i)),
    )
