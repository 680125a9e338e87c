-- The number, and of a policy's fault the place behind it; then the line feed.
use Rattle.std.proofs.Common.{◌≡◌, [], ◌∷◌, ◌++◌, ℕ, List, Some, None}
use Rattle.policy.specs.Codes.{Code, Fault, Plain}
use Rattle.policy.specs.Faults.{code_number}
use Rattle.policy.specs.Answers.{code_of, place}
use Rattle.casefile.specs.Texts.{decimal, refused_number, refused_text}
use Rattle.casefile.proofs.Writing.{put-behind}
use Rattle.casefile.proofs.texts.put_refused.Goals as goal

-- what stands behind the number
abbrev placed : ℕ → List ℕ
placed p = 32 ∷ 97 ∷ 116 ∷ 32 ∷ (decimal p ++ (10 ∷ []))

with_place : (x : Code) (k p : ℕ) → k ≡ code_number x → Some p ≡ place x → refused_text x ≡ refused_number k ++ placed p
with_place (Fault j q) k p n e = let f : p ≡ q = cc in rw (n, f)
with_place (Plain j) k p n e = cc

without_place : (x : Code) (k : ℕ) → k ≡ code_number x → None ≡ place x → refused_text x ≡ refused_number k ++ (10 ∷ [])
without_place (Fault j q) k n e = cc
without_place (Plain j) k n e = rw n

pub returns-in-Some : goal.returns-in-Some
returns-in-Some c =
    let a = c.args in
    let is = with_place (code_of a.refusal) c.number.result c.in-Some.place c.number.ensures c.in-Some.ensures in
    rw is (put-behind c.put_numbered-end.ensures (placed c.in-Some.place) (rw is at c.requires) c.put_counted.ensures)

pub returns-in-None : goal.returns-in-None
returns-in-None c =
    let a = c.args in
    let is = without_place (code_of a.refusal) c.number.result c.number.ensures c.in-None.ensures in
    rw is (put-behind c.put_numbered-end.ensures (10 ∷ []) (rw is at c.requires) c.put.ensures)
