pub mod Chains
pub mod Indexed
pub mod Layers
pub mod Marks
pub mod Names
pub mod Newest
pub mod Paths
