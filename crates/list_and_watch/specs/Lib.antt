-- The definitions, in reading order.
pub mod Followers
pub mod Listed
pub mod Recognized
pub mod Placed
pub mod Answered
pub mod Exchanged
pub mod Causes
pub mod Given
pub mod Told
pub mod Gone
pub mod Pauses
pub mod Codes
pub mod FollowerLaws
pub mod GivenLaws
