pub mod Asked
pub mod Picked
pub mod Removed
