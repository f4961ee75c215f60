-- Read Plans first: what a Deployment's plan commands. FirstCommands has that the first of these owes its key; the others are what it rests on.
pub mod EditedSets
pub mod ReadSets
pub mod Looked
pub mod StoredSets
pub mod SetCreates
pub mod ParsedSets
pub mod SetUpdates
pub mod Plans
pub mod FirstCommands
