pub mod Digits
pub mod Turning
