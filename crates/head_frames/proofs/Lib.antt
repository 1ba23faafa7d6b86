-- What a head sends of itself, and what that leaves in its row, is what the definitions say of the record.
pub mod Drops
pub mod Sends
