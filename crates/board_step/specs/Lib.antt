-- What a board answers.
pub mod Board
