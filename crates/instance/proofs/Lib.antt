-- Surveys of a policy, and well-formed instances.
pub mod Checks
pub mod Formed
pub mod Stepping
pub mod Placing
pub mod Lettering
