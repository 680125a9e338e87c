pub mod Examples
-- Bytes: a case's layout, the numbers in it, and the text put into an output.
pub mod Laying
pub mod Placing
pub mod Decoding
pub mod Decimals
pub mod Writing
-- Runs: numbers, instances, lines, and the actions taken.
pub mod Refusing
pub mod Lines
pub mod Taken
-- Cases without permissions and workflow.
pub mod Parts
