-- The definitions, in reading order.
pub mod Answers
pub mod Playing
pub mod Turns
pub mod Replayed
pub mod Requests
pub mod Clients
pub mod Acting
pub mod Worlds
pub mod Handling
pub mod Working
pub mod Told
pub mod Steps
