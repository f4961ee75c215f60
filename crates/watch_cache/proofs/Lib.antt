pub mod Rising
pub mod Recorded
pub mod KindWindows
