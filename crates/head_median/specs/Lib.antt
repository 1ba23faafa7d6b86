-- The readings in a head's row, and the rank of a number.
pub mod Ranks
pub mod Readings
