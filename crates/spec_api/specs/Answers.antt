-- What each request is answered, and what it writes.
pub mod Deletion
pub mod Verbs
pub mod Reached
pub mod Versions
pub mod Lists
