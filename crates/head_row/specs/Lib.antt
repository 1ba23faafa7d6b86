-- What a function on a row promises of the record that the row is of.
pub mod Promises
pub mod Sent
