pub mod Shutting
pub mod DueTold
pub mod WorkBoards
pub mod LeftAlone
