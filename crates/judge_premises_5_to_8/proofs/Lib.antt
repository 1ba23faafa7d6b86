-- Premises 5 to 8 by what is kept from one entry to the next.
pub mod Heads
pub mod ReceiverSets
pub mod Candidates
pub mod Found
pub mod Closing
pub mod Reached
