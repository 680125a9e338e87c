-- Vocabulary.
pub mod Lists
pub mod Bits
-- The algebra: document 01's table and document 004's Definitions 1 to 8.
pub mod Terms
pub mod Words
pub mod Roles
pub mod Tables
pub mod Multisets
pub mod Traces
pub mod Workflows
pub mod Csp
pub mod Processes
-- Equal forms.
pub mod Steps
pub mod Rewriting
pub mod Normal
-- What is proved of them.
pub mod Laws
pub mod Accuracy
pub mod Secure
pub mod EqualForms
pub mod Spreading
