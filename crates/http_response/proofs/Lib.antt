pub mod HeadParts
pub mod InTurn
