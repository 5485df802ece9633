pub mod Heard
pub mod Moments
pub mod Cluster
pub mod Clusters
pub mod Deeds
pub mod Laws
