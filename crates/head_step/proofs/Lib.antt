-- What the code of a head's step makes of a row is what the definitions make of the record.
pub mod Tested
pub mod Effects
pub mod Inputs
