-- What lines tell of targets.
pub mod Lives
pub mod Numbers
pub mod Adding
pub mod ClientLines
pub mod TurnLines
pub mod CutLines
pub mod Leases
pub mod Events
pub mod Counting
pub mod Legal
pub mod Laws
pub mod Growing
pub mod Issued
