-- Read Moving first: each move leaves a follower that follows the server. Runs takes it over every list of steps; LeadRuns and PassRuns are of the deltas that wait.
pub mod Appending
mod Delivering
pub mod Feeding
pub mod FramesRead
pub mod Growing
pub mod Leading
pub mod LeadMoves
pub mod LeadRuns
pub mod Passing
pub mod PassMoves
pub mod PassRuns
mod Moving
pub mod OpeningsRead
mod RefusalsRead
pub mod Requests
mod Rising
pub mod Runs
pub mod Serving
mod Staying
mod Answered
mod Asking
mod Closed
mod Closings
mod LastLines
mod LinesRead
mod Opening
mod Played
mod Standing
mod TakenIn
mod ToldLooks
