-- The code's tests are the definitions' tests; and rows and records in their ranges stand for each other.
pub mod Numbers
pub mod Senders
pub mod Parts
pub mod Back
