-- The definitions.
pub mod Finding
