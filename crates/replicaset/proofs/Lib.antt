-- Read Related first: what a pod is to a set. RankedPods has the order in which surplus pods go.
pub mod Counts
pub mod Decimals
pub mod RankOrder
pub mod RankedPods
pub mod Related
