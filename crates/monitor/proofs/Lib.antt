-- Refusals, well-formed monitors and events read.
pub mod Opening
pub mod Formed
pub mod Checks
pub mod Reading
-- What an event alters.
pub mod Effects
pub mod Order
pub mod Preserved
-- The workspace: when it is filled.
pub mod Fillable
pub mod Evaluating
-- Who may act.
pub mod Candidates
pub mod Enabling
pub mod Unordered
-- The letter that is kept.
pub mod Letters
