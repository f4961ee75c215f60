-- Read Stepped first: what each step of a turn does. Worked joins turns, Repeated has that no command is issued again, Sparing what the collector spares.
pub mod Looks
pub mod Stepped
pub mod Untouched
pub mod Ways
pub mod Worked
mod Repeated
mod Older
mod Sparing
