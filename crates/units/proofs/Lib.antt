pub mod Stacks
pub mod Units
pub mod Examples
mod Each
mod Found
