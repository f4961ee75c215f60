pub mod Watches
pub mod Given
pub mod Looked
pub mod FirstFrames
pub mod Opened
pub mod Served
