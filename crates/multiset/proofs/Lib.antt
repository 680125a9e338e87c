pub mod Listed
pub mod Ascending
pub mod Answers
