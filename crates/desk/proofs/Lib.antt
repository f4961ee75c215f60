-- Read Entering first: the server that a history gives with one entry more. Seated has what is asked at a seat.
pub mod Answered
pub mod Entering
pub mod Coming
pub mod Compacted
pub mod Stepping
pub mod Named
pub mod Seated
pub mod Sent
pub mod Wrote
