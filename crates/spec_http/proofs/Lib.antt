-- Read Meanings first: what bytes ask, and what else they cannot ask. Staying and Halves are the laws of bytes that go on, or are cut; Asked and Read those of what is written.
pub mod OnLiterals
pub mod Fields
pub mod Meanings
pub mod Staying
pub mod Halves
pub mod Passing
pub mod Proper
pub mod WellFormed
pub mod ConnectionsWorked
pub mod LimitsWorked
pub mod Numerals
pub mod Printed
pub mod Read
pub mod Checked
pub mod Asked
pub mod Pieces
