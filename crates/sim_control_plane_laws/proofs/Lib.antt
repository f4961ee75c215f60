-- Read PlaneRuns first: the server's history is reached, and followers follow it, whatever steps are taken. Spared has that the collector spares what has a live owner.
pub mod Asking
pub mod PlaneRuns
pub mod Replacing
pub mod Rising
pub mod StoredLists
pub mod Asked
pub mod Collected
pub mod CutAnswers
pub mod KeptRuns
pub mod KeptTurns
mod PlannedDeletes
pub mod SameWrites
pub mod Spared
