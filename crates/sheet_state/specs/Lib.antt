-- Where what concerns one vote or adjust is kept.
pub mod Indices
pub mod Arrays
