-- Read Replies first: replies, and where there is none. Heads and WholeBodies are their parts, Watches those read to their end.
pub mod Framings
pub mod Heads
pub mod Replies
pub mod Spoken
pub mod Watches
pub mod WholeBodies
