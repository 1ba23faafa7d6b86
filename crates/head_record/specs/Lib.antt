-- A record and its row, one sender after another, and numbers that become bytes.
pub mod Filling
pub mod Bytes
