pub mod Views
pub mod Cuts
pub mod Reading
pub mod Seen
