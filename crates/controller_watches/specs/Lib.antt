-- The definitions, in reading order.
pub mod Watched
pub mod Joint
