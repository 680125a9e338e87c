-- A test on a call's result, as the definition has it: r is the result, b what the callee's contract says it is.
use mathlib.Core.Path.{◌≡◌, sym, ◌∙◌}
use mathlib.Core.Bool.{Bool, true, false, not}
use borrow.Author.Tests.{not-true, not-false}

pub is : {r b c : Bool} → r ≡ b → r ≡ c → b ≡ c
is e t = sym e ∙ t

-- under `!`
pub failed : {r b : Bool} → r ≡ b → not r ≡ true → b ≡ false
failed e t = sym e ∙ not-true _ t

pub passed : {r b : Bool} → r ≡ b → not r ≡ false → b ≡ true
passed e t = sym e ∙ not-false _ t
