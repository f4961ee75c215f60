pub mod Slots
pub mod Seen
pub mod Codes
