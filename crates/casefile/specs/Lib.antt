pub mod Cases
pub mod Texts
-- What is proved of them.
pub mod Taken
pub mod Parts
-- The contracts of private functions.
pub mod Private
