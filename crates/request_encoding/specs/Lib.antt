-- The definitions, in reading order.
pub mod Texts
pub mod Deletes
pub mod Told
pub mod Laws
pub mod Scopes
pub mod Targets
pub mod ScopesTold
pub mod Given
pub mod Seen
