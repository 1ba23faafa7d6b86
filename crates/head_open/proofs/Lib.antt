-- A head's marks as one number.
pub mod Marks
