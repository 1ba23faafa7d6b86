pub mod Pass
pub mod Where
