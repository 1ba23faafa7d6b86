pub mod Verdicts
pub mod Taken
