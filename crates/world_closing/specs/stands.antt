-- What the targets stand for at each moment of any run, and in its end: now, at the snapshots of earlier runs, and at its own.
pub mod Took
pub mod Resolving
pub mod Containers
pub mod Covered
pub mod Created
pub mod Stands
pub mod Held
pub mod Stores
pub mod Sounding
pub mod Opening
pub mod Lasting
pub mod Ends
pub mod Runs
