pub mod Trace
pub mod Follows
