-- Laws that the proofs of this crate's functions cite.
pub mod Loop
pub mod Ready
pub mod Where
