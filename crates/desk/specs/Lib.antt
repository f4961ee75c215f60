pub mod Entries
pub mod Askings
pub mod Histories
pub mod Steps
pub mod Desks
pub mod Told
pub mod Asked
pub mod Seats
