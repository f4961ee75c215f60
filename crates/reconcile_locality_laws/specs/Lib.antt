pub mod Differences
pub mod ReplicaSetLocality
pub mod CollectorLocality
pub mod DeploymentLocality
pub mod SettledSets
pub mod SettledAtPresent
pub mod SettledItems
pub mod SettledDeployments
