pub mod Page
pub mod Round
pub mod Sheet
