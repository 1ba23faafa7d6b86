-- A record's row read and written, and what of its ranges an action's parts keep.
pub mod Rows
pub mod Fitting
