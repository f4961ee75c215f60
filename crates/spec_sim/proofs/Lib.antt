pub mod ClusterFollowers
