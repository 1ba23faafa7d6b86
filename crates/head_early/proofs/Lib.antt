-- What the test at the end of an action makes of a row is what the definition makes of the record.
pub mod Closing
