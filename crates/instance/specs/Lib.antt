pub mod Letters
pub mod Instances
pub mod Steps
pub mod Candidates
-- What is proved of them.
pub mod Laws
