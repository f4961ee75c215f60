pub mod Taken
pub mod Simulated
