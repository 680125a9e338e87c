pub mod Listing
pub mod Spelling
