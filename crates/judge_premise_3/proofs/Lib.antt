-- Premise 3 by the real times at which the starts last reached the heads.
pub mod Extremes
pub mod Times
pub mod Events
pub mod Accepted
