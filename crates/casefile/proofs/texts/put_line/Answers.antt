-- Two fields, and two bytes behind them: the line, regrouped.
use Rattle.std.proofs.Common.{◌≡◌, [], ◌∷◌, ◌++◌, ℕ, List, append_assoc, sym, ap, ◌∙◌}
use Rattle.casefile.specs.Texts.{decimal, line_text}
use Rattle.casefile.specs.Private.{HasRoom}
use Rattle.casefile.proofs.Writing.{room-behind, put-behind}
use Rattle.casefile.proofs.texts.put_line.Goals as goal

-- a number and a space
abbrev field : ℕ → List ℕ
field n = decimal n ++ (32 ∷ [])

grouped : (place k status : ℕ) → line_text place k status ≡ field place ++ (field k ++ (status ∷ 10 ∷ []))
grouped place k status =
    ap (λ (l : List ℕ). decimal place ++ (32 ∷ l)) (sym (append_assoc (decimal k) (32 ∷ []) (status ∷ 10 ∷ [])))
    ∙ sym (append_assoc (decimal place) (32 ∷ []) (field k ++ (status ∷ 10 ∷ [])))

pub returns : goal.returns
returns c =
    let a = c.args in
    -- the letter and the line feed; the number and these
    let ending : List ℕ = a.status ∷ 10 ∷ [] in
    let rest : List ℕ = field a.code ++ ending in
    let whole : HasRoom a.out.now a.at (field a.place ++ rest) = rw (grouped a.place a.code a.status) at c.requires in
    let room : HasRoom c.put_field-number.new.out c.put_field-number.result rest = room-behind c.put_field-number.ensures rest whole in
    let last : HasRoom c.put_field-letter.new.out c.put_field-letter.result ending = room-behind c.put_field-letter.ensures ending room in
    rw (grouped a.place a.code a.status)
    (put-behind c.put_field-number.ensures rest whole
    (put-behind c.put_field-letter.ensures ending room
    (put-behind c.put-end.ensures (10 ∷ []) last c.put.ensures)))
