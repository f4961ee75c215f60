pub mod Frames
pub mod Heads
