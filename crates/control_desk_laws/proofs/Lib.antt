pub mod Steps
pub mod Remembering
