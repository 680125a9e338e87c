pub mod NormalForms
pub mod Private
