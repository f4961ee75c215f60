pub mod FollowerLaws
pub mod ClusterLaws
pub mod LeadLaws
pub mod PassLaws
pub mod ServedStreamLaws
pub mod StreamingLaws
