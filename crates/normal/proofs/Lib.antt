pub mod Chains
pub mod Merging
pub mod Normalising
pub mod Examples
