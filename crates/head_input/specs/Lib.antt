-- The tests of a caller's numbers in parts.
pub mod Parts
