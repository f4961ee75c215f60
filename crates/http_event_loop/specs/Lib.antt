-- The definitions, in reading order.
pub mod Begun
pub mod Asked
pub mod Counted
pub mod Deadlines
pub mod Rotas
pub mod Serving
pub mod Rows
