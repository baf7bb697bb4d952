-- What the turns of actors lead to, that the actors can go on then, and where a run of them ends.
pub mod Ways
pub mod Going
pub mod Joining
pub mod Turning
pub mod Turnings
pub mod Openings
pub mod Hearing
pub mod Steps
pub mod Breaking
pub mod Ended
