-- The definitions, in reading order.
pub mod Looking
pub mod Patience
pub mod Learning
pub mod Finding
pub mod Telling
pub mod Stepping
pub mod Ending
pub mod Working
pub mod Repeating
pub mod Older
pub mod Sparing
