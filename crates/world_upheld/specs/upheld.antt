-- All that holds between any two events of any run.
pub mod Named
pub mod Dated
pub mod Reading
pub mod Heard
pub mod Clients
pub mod Telling
pub mod Upheld
pub mod Events
pub mod Begins
pub mod BeginVersions
pub mod BeginKnown
pub mod Runs
pub mod Containers
pub mod BeginStands
pub mod Signs
