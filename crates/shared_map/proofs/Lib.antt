-- Read Between first: what is put, removed and found lies between what is below its key and what is above. Located takes it to the chunk that may have the key.
pub mod Between
pub mod Changed
pub mod Cuts
pub mod Joined
pub mod Located
pub mod Orders
pub mod Places
pub mod Spans
