pub mod Workspace
pub mod Trials
pub mod Private
