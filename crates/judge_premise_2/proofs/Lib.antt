-- The judge's signed numbers.
pub mod Differences
