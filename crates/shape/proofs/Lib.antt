pub mod Parts
pub mod Kinded
pub mod Ends
