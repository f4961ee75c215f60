pub mod LineFrames
pub mod Going
pub mod Pieces
