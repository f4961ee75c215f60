pub mod Askable
pub mod Replying
pub mod ListReplies
pub mod Responding
pub mod Delivering
pub mod Serving
pub mod Told
pub mod Alone
