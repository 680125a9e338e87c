pub mod Configurations
pub mod Permitted
-- What is proved of them.
pub mod Laws
