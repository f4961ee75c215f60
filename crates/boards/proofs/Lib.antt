pub mod Shutting
pub mod DueTold
