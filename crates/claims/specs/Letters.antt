-- The letter that a monitor keeps (document 02, E6). Statements only.
use Rattle.std.specs.Prelude.{◌≡◌}
use Rattle.monitor.specs.Statuses.{letter_of, status_code, status_letter}
use Rattle.claims.specs.Accuracy.{Run, left}

-- "On a sheet grown from an opening by events the letter is what document 01 defines": after an opening answered 0 and any list of words,
-- refused ones included, with workspaces of any lengths, it is `d` where the monitor is closed, else `c` exactly when the taken actions satisfy,
-- else `o`. The status call answers it.
abbrev pub LetterIsStanding : Type 0
LetterIsStanding =
    (r : Run)
    → ((left r).instance.status ≡ letter_of (left r).instance)
    × (status_code (left r) ≡ 0)
    × (status_letter (left r) ≡ letter_of (left r).instance)
