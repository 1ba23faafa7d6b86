-- What the step and the counter rest on.
pub mod Steps
pub mod Counts
