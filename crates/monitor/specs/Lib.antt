pub mod Monitors
pub mod Evaluations
pub mod Events
pub mod Statuses
pub mod Enabled
pub mod Runs
-- What is proved of them.
pub mod Laws
pub mod Effects
-- The contracts of private functions.
pub mod Private
