pub mod Seen
pub mod Instance
pub mod Aged
pub mod Later
pub mod Due
pub mod DueLaws
