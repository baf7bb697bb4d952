pub mod Chained
pub mod Newest
pub mod Stretches
pub mod Marking
pub mod Naming
pub mod Apart
pub mod NamePlaces
pub mod Known
