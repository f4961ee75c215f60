-- The definitions, in reading order.
pub mod Kinds
pub mod Handled
pub mod Told
pub mod Reconciled
pub mod Runs
pub mod Threads
pub mod Watched
pub mod Pausing
