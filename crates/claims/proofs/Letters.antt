-- A monitor that keeps step with its accepted events has document 01's letter.
use Rattle.claims.specs.Accuracy.{left, history}
use Rattle.claims.specs.Letters.{LetterIsStanding}
use Rattle.claims.proofs.Answers.{status-given}
use Rattle.claims.proofs.Accuracy.{follows}

pub letter-is_standing : LetterIsStanding
letter-is_standing r =
    let given = status-given r.start r.opens (left r) (history r) (follows r) in
    ((follows r).same_letter, given, rw given (follows r).same_letter)
