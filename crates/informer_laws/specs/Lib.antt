pub mod OwedLaws
pub mod PublishLaws
