pub mod Reached
pub mod Codes
pub mod Told
pub mod Outcomes
pub mod Issuing
