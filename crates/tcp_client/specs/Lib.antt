-- The definitions, in reading order.
pub mod Connections
pub mod Clocks
pub mod StoppedClocks
pub mod Patience
