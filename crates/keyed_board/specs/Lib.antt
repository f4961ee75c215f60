pub mod Patience
pub mod Boards
pub mod Steps
pub mod Said
pub mod DueLaws
pub mod PatienceLaws
pub mod WorkLaws
