pub mod ClusterStates
pub mod Standing
pub mod Requested
pub mod Changes
pub mod Headline
