pub mod DueTold
pub mod Instance
pub mod Later
