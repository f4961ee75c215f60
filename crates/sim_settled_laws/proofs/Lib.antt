pub mod Joins
pub mod Rest
