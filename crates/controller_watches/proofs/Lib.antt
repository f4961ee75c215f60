mod Scopes
mod JointOf
mod NothingMissed
pub mod JointRefused
