mod Longest
mod Steps
mod Followed
pub mod Published
mod Given
mod Opened
mod NotMoved
pub mod Joined
mod Dealt
mod Gone
