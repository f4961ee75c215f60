-- The definitions, in reading order.
pub mod Answered
pub mod Resting
