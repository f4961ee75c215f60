pub mod Answered
pub mod Listed
pub use Rattle.sim_followers.specs.Notified
pub mod Outcomes
pub mod Openings
pub mod Notified
