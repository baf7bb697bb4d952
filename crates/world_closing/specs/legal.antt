-- What the report of an ended run tells is legal.
pub mod Names
pub mod InOrder
pub mod Telling
pub mod Naming
pub mod Following
pub mod Moments
pub mod Reads
pub mod Snapshots
pub mod Outcomes
pub mod Told
pub mod Headline
pub mod Ended
pub mod Openings
pub mod LinesApart
