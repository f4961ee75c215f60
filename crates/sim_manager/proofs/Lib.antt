pub mod Served
pub mod Asking
pub mod Issues
pub mod Counts
