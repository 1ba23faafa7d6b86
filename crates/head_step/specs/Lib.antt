-- The numbers of an input that a head's step is made for, and parts of a step.
pub mod Sized
pub mod Parts
