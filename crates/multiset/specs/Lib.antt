pub mod MultisetTest
-- The contracts of private functions.
pub mod Private
