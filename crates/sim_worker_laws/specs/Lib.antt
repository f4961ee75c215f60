pub mod TurnLaws
pub mod TakeLaws
pub mod IssuedLaws
pub mod OwedLaws
pub mod LookLaws
pub mod ActionLaws
pub mod StepLaws
