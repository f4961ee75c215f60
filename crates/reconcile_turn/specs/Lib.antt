pub use Rattle.reconcile_turn.specs.Seen
pub mod Looked
pub mod Seen
pub mod Answers
pub mod NextCommands
pub mod Sightings
pub mod Stages
pub mod Pods
