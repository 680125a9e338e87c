-- Vocabulary.
pub mod Chains
pub mod Digits
pub mod Laying
pub mod Gathering
-- A well-formed configuration.
pub mod Formed
