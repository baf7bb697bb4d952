-- How attempts end where targets may stop, and where snapshots and aggregates are made.
pub mod Telling
pub mod Clients
pub mod Posts
pub mod Events
pub mod Laws
pub mod Answers
