pub mod Listing
pub mod Gathering
pub mod Walked
pub mod Places
pub mod Updates
