-- The tests of a record's ranges in two parts, and a sender's numbers against their greatest.
pub mod Parts
