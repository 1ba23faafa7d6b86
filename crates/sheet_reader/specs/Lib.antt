pub mod Sheet
pub mod Reader
