-- What a run is made of.
pub mod Calls
-- Permissions and workflow of an opening.
pub mod Ordered
-- Demand 2.
pub mod Follows
pub mod Answers
pub mod Accuracy
-- The letter that a monitor keeps.
pub mod Letters
pub mod Multisets
-- Demand 3, and spreading.
pub mod Alike
pub mod Spreading
pub mod EqualForms
-- The mask kept beside a monitor.
pub mod KeptMask
-- Users who hold no role.
pub mod Unassigned
-- The settled examples.
pub mod Examples
