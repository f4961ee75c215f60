pub mod Replays
-- The definitions, in reading order.
pub mod Replies
