-- Read Stood first: a stored cluster stands for a cluster, step after step. Headlines has what holds of every cluster.
pub mod Stood
pub mod Headlines
pub mod Answered
pub mod Taking
pub mod Requests
pub mod Handling
