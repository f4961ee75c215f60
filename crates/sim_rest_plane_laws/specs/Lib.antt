pub mod PlanePassLaws
pub mod FirstCommandLaws
pub mod RestLaws
