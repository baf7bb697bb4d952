-- What outcomes show of their causes, over stops and openings.
pub mod Follows
pub mod Stopping
pub mod CutTurns
pub mod Cutting
pub mod Further
pub mod FurtherEvents
pub mod Happening
pub mod Following
