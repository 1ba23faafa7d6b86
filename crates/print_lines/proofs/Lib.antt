-- Laws that the proofs of this crate's functions, and their callers, cite.
pub mod Lines
pub mod Lengths
