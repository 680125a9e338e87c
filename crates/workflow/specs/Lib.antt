pub mod Permissions
pub mod Workflows
pub mod Reading
-- What is proved of them.
pub mod Laws
