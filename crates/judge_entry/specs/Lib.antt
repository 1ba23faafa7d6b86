-- What the judge keeps of a history.
pub mod State
