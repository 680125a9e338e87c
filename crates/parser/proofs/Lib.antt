pub mod Readers
pub mod Setting
pub mod Sides
pub mod Wholes
