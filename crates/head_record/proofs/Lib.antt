-- What a record's row, the record of a row and the frame of its numbers rest on.
pub mod Filled
pub mod Cutting
pub mod Frames
