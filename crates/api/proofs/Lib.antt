-- Read Done first: what was done, and how a connection is left then. Delivered adds what was written.
pub mod Asking
pub mod Written
pub mod Done
pub mod Delivered
pub mod ListReplies
pub mod Owned
