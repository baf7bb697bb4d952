-- Who is told that a target is down, and what is found of what a target hears.
pub mod Downs
pub mod Knowing
pub mod Accounted
pub mod Waiting
pub mod Leaders
pub mod Requests
