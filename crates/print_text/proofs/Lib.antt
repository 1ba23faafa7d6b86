-- Laws that the proofs of this crate's functions, and their callers, cite.
pub mod Texts
pub mod Digits
