-- Read Keeps first: each move of a pass keeps the law. Meetings has passes that meet.
pub mod Seats
pub mod Entries
pub mod Somebody
pub mod Keeps
pub mod Meetings
pub mod Numbers
