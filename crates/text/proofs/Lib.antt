-- Texts and terms.
pub mod Beginnings
pub mod Numbers
pub mod Members
pub mod Parsing
pub mod Lengths
-- The calls.
pub mod Policies
pub mod Converting
pub mod Opened
pub mod Answers
pub mod Returns
pub mod Refusing
-- Helpers of the crates above.
pub mod Putting
-- Examples.
pub mod Examples
