pub mod Codes
pub mod Kinds
pub mod Refusals
pub mod Masks
pub mod Words
pub mod KindsRead
pub mod Faults
pub mod Answers
pub mod Reading
pub mod Private
-- What is proved of them.
pub mod Accepted
pub mod Places
