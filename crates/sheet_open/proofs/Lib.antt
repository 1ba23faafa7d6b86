-- Laws that the proofs of this crate's functions, and of those that ask it, cite.
pub mod Table
pub mod Open
