pub mod Begins
pub mod Adopts
pub mod Looked
pub mod First
