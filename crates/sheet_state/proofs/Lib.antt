-- Laws of indices, and of what a run keeps.
pub mod Indices
pub mod Standing
mod Fresh
