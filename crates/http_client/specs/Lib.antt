-- The definitions, in reading order.
pub mod Patience
pub mod Heads
pub mod Reading
pub mod Replies
pub mod Bodies
pub mod Waits
pub mod Calls
pub mod Watches
pub mod Laws
