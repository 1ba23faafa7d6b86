-- When an entry is open.
pub mod Open
