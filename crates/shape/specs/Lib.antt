pub mod Shapes
pub mod Private
