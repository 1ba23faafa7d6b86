-- The proof that no premise can be left out.
pub mod Needed
