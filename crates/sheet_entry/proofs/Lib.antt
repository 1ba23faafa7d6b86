-- Laws that the proofs of this crate's functions cite.
pub mod Verdicts
pub mod Inputs
pub mod Frames
pub mod Steps
