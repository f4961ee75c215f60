-- The definitions, in reading order.
pub mod Looked
pub mod Relisted
pub mod Handled
pub mod Told
pub mod Passed
pub mod Woken
pub mod Resting
pub mod Followed
