pub mod Changes
pub mod Owed
