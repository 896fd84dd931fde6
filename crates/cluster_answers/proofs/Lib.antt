pub mod Clusters
pub mod InGroups
pub mod Told
