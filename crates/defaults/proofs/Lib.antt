pub mod Changed
pub mod NoFloats
