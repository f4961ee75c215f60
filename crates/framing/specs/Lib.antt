pub mod Decoders
pub mod Events
pub mod Laws
pub mod Lines
pub mod Scans
pub mod Texts
