-- Read Acting first: an action is closed, takes a key, or goes on with a turn. HandRuns, IssuedRuns and LookRuns are the laws over every list of steps.
pub mod Acting
mod Actions
pub mod Counting
pub mod Dirty
pub mod Following
pub mod Growing
pub mod HandRuns
pub mod InHands
pub mod IssuedRuns
pub mod Lists
pub mod LookRuns
pub mod Moved
pub mod Nexts
pub mod Owed
mod Processing
mod Steps
pub mod Takes
