-- Vocabulary.
pub mod Arrays
pub mod Digits
-- Workflows without two transitions of the same state and action.
pub mod Determinism
pub mod Seen
-- What is read, and well-formed workflows.
pub mod Formed
