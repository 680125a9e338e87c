-- The text of a policy, and what a reader of texts accepts.
pub mod Texts
pub mod Grammar
-- The calls.
pub mod Reading
pub mod Writing
pub mod Puts
-- What is proved of them.
pub mod Laws
