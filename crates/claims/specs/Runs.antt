-- What a run of the monitor says: the list of its steps is `run` of the monitor's Runs, and everything here is read off it.
use Rattle.std.specs.Prelude.{cond, List, [], ◌∷◌, ◌++◌, map, ℕ, eqb}
use Rattle.soda.specs.Traces.{business, add_ua, rm_ua}
use Rattle.soda.specs.Processes.{Symbol, event, done}
use Rattle.policy.specs.Codes.{ACCEPTED}
use Rattle.monitor.specs.Events.{Event, Acts, Grants, Revokes, Closes, Malformed}
use Rattle.monitor.specs.Runs.{Step}

-- An event in the layout as document 004 has it: an action with its number, a grant or revocation, or done for a close.
abbrev pub symbol_of : Event → List Symbol
symbol_of (Acts u a) = event (business u a) ∷ []
symbol_of (Grants u r) = event (add_ua u r) ∷ []
symbol_of (Revokes u r) = event (rm_ua u r) ∷ []
symbol_of Closes = done ∷ []
symbol_of Malformed = []

-- the accepted events, those answered 0; refused ones are left out
abbrev pub kept : Step → List Symbol
kept s = cond (eqb s.code ACCEPTED) (symbol_of s.event) []

abbrev pub accepted : List Step → List Symbol
accepted [] = []
accepted (s ∷ l) = kept s ++ accepted l

-- what the clerk sees after an event: its number, and the status call's number and letter
abbrev pub Line : Type 0
Line = ℕ × ℕ × ℕ

abbrev pub line : Step → Line
line s = (s.code, s.status_code, s.letter)

abbrev pub lines : List Step → List Line
lines l = map line l
