pub mod Standing
pub mod Same
pub mod Highest
pub mod Turns
pub mod Waits
