-- What is proved of ranks, of the counts in a row, and of the row of a record.
pub mod Ranks
pub mod Counts
pub mod Records
