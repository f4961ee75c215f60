-- Read Calls first: what calls at the board leave in a pass. Handled goes over the changes of a publish, BoardTold over a follower's steps.
pub mod BoardTold
pub mod Calls
pub mod Handled
pub mod None
pub mod Passing
pub mod Relisted
pub mod Rest
pub mod Resting
pub mod Sent
pub mod Stops
