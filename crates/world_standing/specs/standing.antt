-- What facts of a run give, and what they go on with, where targets may stop.
pub mod Requests
pub mod Clients
pub mod Telling
pub mod Unsnapped
pub mod Events
pub mod Covering
