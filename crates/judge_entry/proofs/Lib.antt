-- What one more entry changes in what the judge keeps.
pub mod Steady
pub mod Changes
