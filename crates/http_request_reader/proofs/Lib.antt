-- Read SoFar first: what is asked by bytes that have come so far. Needed has that no more is read than a request needs.
pub mod Filling
pub mod Told
pub mod Needed
pub mod ReadHeads
pub mod SoFar
pub mod Checked
