-- What is left of vote readings once the candidate changes.
pub mod Drops
