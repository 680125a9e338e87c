-- Vocabulary.
pub mod Bools
pub mod Bits
pub mod Lists
pub mod Splits
pub mod Sorting
pub mod Results
pub mod Loops
-- Terms and words.
pub mod Terms
pub mod Words
pub mod Roles
-- Rewriting by a rule; exchanging, regrouping and the normal form; spreading.
pub mod Rewriting
pub mod WordRewriting
pub mod Steps
pub mod Normal
pub mod WordSteps
pub mod EqualForms
-- The table, and what it means.
pub mod Tables
pub mod Joins
pub mod Spreading
pub mod Parts
pub mod Orders
pub mod Notes
pub mod Renaming
pub mod Multisets
pub mod Unassigned
pub mod Traces
pub mod Processes
pub mod Endings
pub mod Readings
pub mod Accuracy
-- The other two processes.
pub mod Workflows
pub mod Secure
-- Computed tests.
pub mod Examples
pub mod Payments
