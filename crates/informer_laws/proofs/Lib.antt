pub mod Owing
pub mod Publishing
