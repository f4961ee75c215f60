-- The frames and streams of a watch, and what a watch is answered.
pub mod Frames
pub mod Streams
pub mod WatchReplies
