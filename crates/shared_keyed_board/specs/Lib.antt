pub mod Histories
pub mod Remembered
pub mod Entries
pub mod Attempts
pub mod Calls
pub mod Passes
