-- What holds of any run, whatever its targets' versions stood for when it began.
pub mod Safe
pub mod Keyed
pub mod Events
pub mod Told
pub mod Raising
