pub mod Keeps
pub mod Logs
pub mod Batches
pub mod Sent
