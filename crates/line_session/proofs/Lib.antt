pub mod Followed
pub mod Served
pub mod Changes
pub mod RecordedWrites
