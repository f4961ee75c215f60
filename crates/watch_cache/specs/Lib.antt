pub mod Changes
pub mod Served
