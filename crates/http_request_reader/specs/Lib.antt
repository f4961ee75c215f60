pub mod Answered
pub mod Bodies
pub mod Receiving
pub mod Arriving
pub mod Openings
