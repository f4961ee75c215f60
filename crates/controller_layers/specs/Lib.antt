-- The definitions, in reading order.
pub mod Within
pub mod Scoped
pub mod KeyNotes
