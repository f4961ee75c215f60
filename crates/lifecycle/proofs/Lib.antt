pub mod Followed
pub mod Marks
pub mod Preconditions
