pub mod FieldLines
pub mod Fields
pub mod RequestHeads
pub mod Reading
pub mod Laws
