-- The definitions, in reading order.
pub mod Heads
pub mod Checks
pub mod Connections
pub mod Replies
pub mod Laws
pub mod HeadExamples
pub mod ReplyExamples
pub mod ConnectionExamples
pub mod Requests
pub mod Answers
pub mod ClientLaws
pub mod RequestLaws
