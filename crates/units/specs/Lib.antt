pub mod Units
pub mod Private
