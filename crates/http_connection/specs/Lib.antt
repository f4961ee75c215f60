-- The definitions, in reading order.
pub mod Stopping
pub mod Deeds
pub mod Arriving
pub mod Watches
pub mod Lists
pub mod Phases
pub mod Sending
pub mod Looking
pub mod Questions
