-- The definitions, in reading order.
pub mod Exchanges
pub mod Outgoing
pub mod Begun
pub mod Asked
pub mod Laws
