pub mod Bodies
pub mod Devices
pub mod Laws
pub mod Parts
pub mod Reading
pub mod Writing
