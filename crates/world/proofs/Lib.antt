mod Asked
mod AtRest
mod Headlines
mod PlaneHeadlines
mod Reaching
pub mod Stood
mod StoredStood
mod Taken
