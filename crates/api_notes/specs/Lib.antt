pub mod Told
pub mod News
pub mod Named
