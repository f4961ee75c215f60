pub mod Digits
pub mod ByWords
pub mod Following
pub mod Simulated
