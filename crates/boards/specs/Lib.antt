pub mod Boards
pub mod Said
pub mod DueLaws
