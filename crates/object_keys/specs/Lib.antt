pub mod Faults
pub mod Keys
pub mod PerKind
pub mod Seen
pub mod WorkKeys
