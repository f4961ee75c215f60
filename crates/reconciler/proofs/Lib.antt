pub mod OwedSoFar
pub mod Again
pub mod Joined
pub mod Wanted
pub mod OneAsked
mod MergedFinalizers
