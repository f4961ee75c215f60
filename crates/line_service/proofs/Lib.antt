pub mod Cutting
pub mod Progress
pub mod Splitting
pub mod Alongside
