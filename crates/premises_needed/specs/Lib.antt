-- The third point with a premise left out, and a sheet for each premise on which it then fails.
pub mod Needed
pub mod Sheets
