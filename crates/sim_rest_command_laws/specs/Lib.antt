pub mod CommandLaws
pub mod FirstCommandLaws
