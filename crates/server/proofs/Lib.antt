-- Read Windows first: what is always true of a server's windows. Watches and Pages have what is given of them.
pub mod Begun
pub mod Pages
pub mod Sent
pub mod Served
pub mod NewestUndone
pub mod Watches
pub mod Windows
pub mod AddedItems
pub mod LastMembers
pub mod PageItems
