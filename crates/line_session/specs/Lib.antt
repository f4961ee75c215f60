pub mod SessionStates
pub mod Refusals
pub mod Effects
pub mod Laws
pub mod RecordedStates
pub mod Entries
