pub mod Opens
pub mod Buckets
pub mod Chains
pub mod Saying
pub mod Places
pub mod Sparing
pub mod Planners
