pub mod Snapshots
pub mod Recorded
pub mod Servers
pub mod Codes
