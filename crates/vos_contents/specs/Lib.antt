pub mod Clients
pub mod Contents
pub mod Found
pub mod Steps
